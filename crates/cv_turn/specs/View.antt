-- What a seat knows, and how the steps change it.
use Rattle.std.specs.Prelude.{ℕ, ◌+◌, ◌-◌, List, [], ◌++◌, length, take, drop, replicate, true, false, Some, None}
use Rattle.cv_turn.specs.declared.view.View.{View}
use Rattle.cv_turn.specs.Held.{longer, grown}

module _ {F E : Type 0} where
  -- the first seat has all numbers, and nothing was made yet
  abbrev pub newcomer : F → ℕ → View F E
  newcomer fixed callers = record {
    fixed = Some fixed;
    first = 0;
    count = callers;
    own = replicate callers [];
    seen = [];
    told = [];
    waits = false;
    ticket = 0;
    inside = false;
    taken = [];
    plan = 0;
  }

  -- a seat that was joined to another knows nothing and has no numbers
  abbrev pub spent : View F E
  spent = record {
    fixed = None;
    first = 0;
    count = 0;
    own = [];
    seen = [];
    told = [];
    waits = false;
    ticket = 0;
    inside = false;
    taken = [];
    plan = 0;
  }

  -- it has drawn a ticket
  abbrev pub drawn : View F E → ℕ → View F E
  drawn v n = record v { waits = true; ticket = n }

  -- its turn has come, and the value has this list
  abbrev pub entered : View F E → List E → View F E
  entered v xs = record v { inside = true; taken = xs }

  -- it has seen this list, whose entries since it was taken are its own
  abbrev pub counted : View F E → List E → View F E
  counted v xs = record v { own = grown v.own (drop (length v.taken) xs); seen = xs; taken = xs }

  -- its turn is over
  abbrev pub unticketed : View F E → View F E
  unticketed v = record v { waits = false; ticket = 0; inside = false; taken = [] }

  -- it is about to hand over so many of its last numbers
  abbrev pub planned : View F E → ℕ → View F E
  planned v n = record v { plan = n }

  -- what stays with it when it hands them over
  abbrev pub kept_part : View F E → View F E
  kept_part v = record v { count = v.count - v.plan; own = take (v.count - v.plan) v.own; plan = 0 }

  -- what the new seat gets
  abbrev pub given_part : View F E → View F E
  given_part v = record v {
    first = v.first + (v.count - v.plan);
    count = v.plan;
    own = drop (v.count - v.plan) v.own;
    plan = 0;
  }

  -- it takes in another seat's numbers, and is told what that one had seen
  abbrev pub joined : View F E → View F E → View F E
  joined v w = record v { count = v.count + w.count; own = v.own ++ w.own; told = w.seen }

  -- it has seen the longer of the lists that it knows
  abbrev pub looked : View F E → View F E
  looked v = record v { seen = longer v.seen v.told; told = [] }
