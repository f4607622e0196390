-- How a session comes from seat to seat: plays of commands.
use Rattle.std.proofs.Common.{◌≡◌, refl, ap, sym, ◌∙◌, subst, ℕ, suc, ◌+◌, true, List, [], ◌∷◌, ◌++◌, map, length, append_assoc, Some, arith}
use Rattle.std.proofs.lemmas.List.{append-nil, length-append}
use Rattle.cv_event.specs.declared.entry.Act.{Act}
use Rattle.cv_event.specs.declared.entry.Act.TheVariants as act
use Rattle.cv_event.specs.declared.entry.Entry.{Entry}
use Rattle.cv_event.specs.declared.refused.Reason.{Reason}
use Rattle.cv_event.specs.declared.refused.Refused.{Refused}
use Rattle.cv_event.specs.declared.slot.Task.{Task}
use Rattle.cv_event.specs.States.{did}
use Rattle.cv_tables.specs.Tabs.{state_of}
use Rattle.cv_desk.specs.Desks.{History, state, Notes}
use Rattle.cv_script.specs.declared.script.Command.{Command}
use Rattle.cv_script.specs.declared.script.Numbered.{Numbered}
use Rattle.cv_session.specs.Responses.{Does, Refuses as Denies, response, held_by}
use Rattle.cv_session.specs.Plays.{Mode, Begins, Written, Play, due_in, refusing, begun, silent, planned, fails, act_of, entered, refusals, written_by, next, entry_by, Plays, stops, quiet, own, failed}
use Rattle.cv_session.specs.Seats.{Seat, now, task_of, tasks_of, Stands, Refuses, play_of, Moves, Obeys}
use Rattle.cv_session.proofs.PlayLemmas.{joined}

-- a command of a line, and those behind it
abbrev pub behind : ℕ → Command → List Numbered → List Numbered
behind line c rest = record { line = line; command = c } ∷ rest

-- how many entries there are behind one more
pub longer : (old new : Seat) (a : Act) → Notes old.history new.history 0 a → suc (length old.history.journal) ≡ length new.history.journal
longer old new a notes =
    let l : length (old.history.journal ++ entry_by 0 a ∷ []) ≡ length old.history.journal + 1 = length-append old.history.journal (entry_by 0 a ∷ []) in
    let m = ap length notes.journal in
    omega (arith, l, m)

-- what an entry of a command leaves
pub record Leaves (old new : Seat) (line : ℕ) (c : Command) (a : Act) (files : List Written) : Type 0 where
  pub notes : Notes old.history new.history 0 a
  pub held : tasks_of new ≡ tasks_of old ++ held_by a
  pub refused : new.refused ≡ old.refused ++ refusals line (suc (length old.history.journal)) a
  pub writes : written_by (did (now old) 0 a) a c ≡ files

-- the play behind it is that of the new seat
pub arrives : (old new : Seat) (line : ℕ) (c : Command) (a : Act) (files before : List Written) (rest : List Numbered) → Leaves old new line c a files
    → next a (play_of Begins (behind line c rest) before old) ≡ play_of Begins rest (before ++ files) new
arrives old new line c a files before rest l =
    let read = longer old new a l.notes in
    λ i. record {
      read = read i;
      state = sym l.notes.becomes i;
      known = sym l.notes.becomes i;
      due = due_in (sym l.notes.becomes i);
      held = sym l.held i;
      mode = Begins;
      commands = rest;
      refused = sym l.refused i;
      written = before ++ l.writes i;
    }

-- a command that is done by one entry
pub does : (old new : Seat) (line : ℕ) (c : Command) (a : Act) (files : List Written) → response (now old) (length (tasks_of old)) c ≡ Does a
    → Leaves old new line c a files → Obeys old new line c files
does old new line c a files r l rest = record {
  entries = entry_by 0 a ∷ [];
  opening = l.notes.opening;
  journal = l.notes.journal;
  plays = λ before. own (play_of Begins (behind line c rest) before old) _ a [] (ap act_of r)
      (subst (λ (p : Play). Plays 0 p [] (play_of Begins rest (before ++ files) new)) (sym (arrives old new line c a files before rest l)) (stops (play_of Begins rest (before ++ files) new)));
}

-- a command is refused by what is seen now, however many places were set aside
pub record Declines (old new : Seat) (line : ℕ) (why : Reason) : Type 0 where
  pub opening : new.history.opening ≡ old.history.opening
  pub journal : new.history.journal ≡ old.history.journal
  pub state : now new ≡ now old
  pub held : tasks_of new ≡ tasks_of old
  pub refused : new.refused ≡ old.refused ++ record { line = line; seen = length old.history.journal; reason = why } ∷ []

pub declines : (old new : Seat) (line : ℕ) (why : Reason) → Refuses old new line why → Declines old new line why
declines old new line why f = record {
  opening = ap (λ (h : History). h.opening) f.history;
  journal = ap (λ (h : History). h.journal) f.history;
  state = ap state f.history;
  held = ap (map task_of) f.held;
  refused = f.refused;
}

pub declines_same : (old mid new : Seat) (line : ℕ) (why : Reason) → mid ≡ old → Refuses mid new line why → Declines old new line why
declines_same old mid new line why e f = declines old new line why (subst (λ (m : Seat). Refuses m new line why) e f)

pub declines_behind : (old mid new : Seat) (line : ℕ) (why : Reason) → Stands old mid → Refuses mid new line why → Declines old new line why
declines_behind old mid new line why s f = record {
  opening = ap (λ (h : History). h.opening) f.history ∙ s.stays.opening;
  journal = ap (λ (h : History). h.journal) f.history ∙ s.stays.journal;
  state = ap state f.history ∙ ap state_of s.stays.tables;
  held = ap (map task_of) (f.held ∙ s.held);
  refused = f.refused ∙ ap (λ (rs : List Refused). rs ++ record { line = line; seen = length mid.history.journal; reason = why } ∷ []) s.refused
      ∙ ap (λ (es : List Entry). old.refused ++ record { line = line; seen = length es; reason = why } ∷ []) s.stays.journal;
}

-- a command that is refused
pub denies : (old new : Seat) (line : ℕ) (c : Command) (why : Reason) → response (now old) (length (tasks_of old)) c ≡ Denies why
    → Declines old new line why → Obeys old new line c []
denies old new line c why r f rest = record {
  entries = [];
  opening = f.opening;
  journal = f.journal ∙ sym (append-nil old.history.journal);
  plays = λ before. quiet (play_of Begins (behind line c rest) before old) (refusing line why (record (play_of Begins (behind line c rest) before old) { commands = rest })) _ []
      (ap (λ x. begun line rest x (play_of Begins (behind line c rest) before old)) r)
      (subst (λ (p : Play). Plays 0 p [] (play_of Begins rest (before ++ []) new)) (sym (refused_play before)) (stops (play_of Begins rest (before ++ []) new)));
}
  where
    refused_play : (before : List Written) → refusing line why (record (play_of Begins (behind line c rest) before old) { commands = rest }) ≡ play_of Begins rest (before ++ []) new
    refused_play before = λ i. record {
      read = length (sym f.journal i);
      state = sym f.state i;
      known = sym f.state i;
      due = due_in (sym f.state i);
      held = sym f.held i;
      mode = Begins;
      commands = rest;
      refused = sym f.refused i;
      written = sym (append-nil before) i;
    }

-- ---- any steps

-- no step
pub stay_put : (m : Mode) (cs : List Numbered) (old : Seat) → Moves m cs old m cs old []
stay_put m cs old = record {
  entries = [];
  opening = refl;
  journal = sym (append-nil old.history.journal);
  plays = λ before. subst (λ (w : List Written). Plays 0 (play_of m cs before old) [] (play_of m cs w old)) (sym (append-nil before)) (stops (play_of m cs before old));
}

-- one after the other
pub go_on : (m m2 m3 : Mode) (cs cs2 cs3 : List Numbered) (a b c : Seat) (files more : List Written) → Moves m cs a m2 cs2 b files
    → Moves m2 cs2 b m3 cs3 c more → Moves m cs a m3 cs3 c (files ++ more)
go_on m m2 m3 cs cs2 cs3 a b c files more first second = record {
  entries = first.entries ++ second.entries;
  opening = second.opening ∙ first.opening;
  journal = second.journal ∙ ap (λ (es : List Entry). es ++ second.entries) first.journal ∙ append_assoc a.history.journal first.entries second.entries;
  plays = λ before. joined second.entries (play_of m3 cs3 (before ++ (files ++ more)) c) (first.plays before)
      (subst (λ (w : List Written). Plays 0 (play_of m2 cs2 (before ++ files) b) second.entries (play_of m3 cs3 w c)) (append_assoc before files more) (second.plays (before ++ files)));
}

-- a silent step
pub by_quiet : (m m2 : Mode) (cs cs2 : List Numbered) (old new : Seat) → new.history ≡ old.history
    → ((before : List Written) → silent (play_of m cs before old) ≡ Some (play_of m2 cs2 before new)) → Moves m cs old m2 cs2 new []
by_quiet m m2 cs cs2 old new same step = record {
  entries = [];
  opening = ap (λ (h : History). h.opening) same;
  journal = ap (λ (h : History). h.journal) same ∙ sym (append-nil old.history.journal);
  plays = λ before. quiet (play_of m cs before old) (play_of m2 cs2 before new) _ [] (step before)
      (subst (λ (w : List Written). Plays 0 (play_of m2 cs2 before new) [] (play_of m2 cs2 w new)) (sym (append-nil before)) (stops (play_of m2 cs2 before new)));
}

-- an entry as it is planned
pub by_own : (m m2 : Mode) (cs cs2 : List Numbered) (old new : Seat) (a : Act) (files : List Written) → Notes old.history new.history 0 a
    → ((before : List Written) → planned (play_of m cs before old) ≡ Some a)
    → ((before : List Written) → next a (play_of m cs before old) ≡ play_of m2 cs2 (before ++ files) new) → Moves m cs old m2 cs2 new files
by_own m m2 cs cs2 old new a files notes plan to = record {
  entries = entry_by 0 a ∷ [];
  opening = notes.opening;
  journal = notes.journal;
  plays = λ before. own (play_of m cs before old) _ a [] (plan before)
      (subst (λ (p : Play). Plays 0 p [] (play_of m2 cs2 (before ++ files) new)) (sym (to before)) (stops (play_of m2 cs2 (before ++ files) new)));
}

-- a job that fails in the place of an entry
pub by_failed : (m m2 : Mode) (cs cs2 : List Numbered) (old new : Seat) (j : ℕ) (files : List Written) → Notes old.history new.history 0 (act.Fail j)
    → ((before : List Written) → fails (play_of m cs before old) j ≡ true)
    → ((before : List Written) → next (act.Fail j) (play_of m cs before old) ≡ play_of m2 cs2 (before ++ files) new) → Moves m cs old m2 cs2 new files
by_failed m m2 cs cs2 old new j files notes may to = record {
  entries = entry_by 0 (act.Fail j) ∷ [];
  opening = notes.opening;
  journal = notes.journal;
  plays = λ before. failed (play_of m cs before old) _ j [] (may before)
      (subst (λ (p : Play). Plays 0 p [] (play_of m2 cs2 (before ++ files) new)) (sym (to before)) (stops (play_of m2 cs2 (before ++ files) new)));
}

-- the play of a seat behind an entry that leaves these tasks held and this refused
pub plays_of : (m : Mode) (cs : List Numbered) (old new : Seat) (a : Act) (w : List Written) → Notes old.history new.history 0 a → (held : List Task) → tasks_of new ≡ held
    → new.refused ≡ old.refused → (record (entered a (play_of m cs w old)) { held = held }) ≡ play_of m cs w new
plays_of m cs old new a w notes held e refused =
    let read = longer old new a notes in
    λ i. record {
      read = read i;
      state = sym notes.becomes i;
      known = sym notes.becomes i;
      due = due_in (sym notes.becomes i);
      held = sym e i;
      mode = m;
      commands = cs;
      refused = sym refused i;
      written = w;
    }
