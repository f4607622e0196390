use Rattle.std.proofs.Common.{◌≡◌, ℕ, List, ◌-◌, ◌<◌, ◌≤◌, ◌++◌, take, drop}
use Rattle.cv_model.specs.Features.{ids_of}
use Rattle.cv_layer.specs.Stretches.{AreStretches}
use Rattle.cv_layer.proofs.StretchLemmas.{total}
use Rattle.cv_layer.proofs.table.Table.put_range.Given as goal

-- the stretches of the ids up to a place are put behind the others; as long as that isn't the last, none of the
-- stretches so far ends behind it
abbrev pub invariant-loop-stretch : goal.invariant-loop-stretch
invariant-loop-stretch l = record {
  from : l.from ≤ l.done;
  to : l.done ≤ l.to;
  start : l.start ≡ total (take l.stretch-index l.stretch-items);
  met : l.done < l.to → l.start ≤ l.done;
  made : (before : List ℕ) → AreStretches l.fn.made.items before
      → AreStretches l.made.items (before ++ take (l.done - l.from) (drop l.from (ids_of l.self.features)));
}
