-- What plays do to a script: its edits are those of the journal, and its text tells the journal.
use Rattle.std.proofs.Common.{◌≡◌, inl, inr, ⊎_elim, refl, ap, sym, ◌∙◌, subst, ◌≤◌, ℕ, suc, ◌+◌, Bool, true, false, ◌&&◌, if◌then◌else◌}
use Rattle.std.proofs.Common.{List, [], ◌∷◌, ◌++◌, length, slice_get, Option, Some, None, is_some, option_map, option_to_list, arith, Result, Ok, Err, IsSomeAnd}
use Rattle.std.specs.List.{AllByRecursion, cons_option}
use Rattle.std.proofs.lemmas.List.{append-nil}
use Rattle.std.proofs.lemmas.Bool.{false≢true}
use Rattle.cv_model.specs.declared.edit.Edit.{Edit}
use Rattle.cv_model.specs.Layers.{Opening}
use Rattle.cv_model.specs.Views.{PixelGrid}
use Rattle.cv_geom.specs.declared.views.ViewError.{ViewError}
use Rattle.cv_geom.specs.Views.{view_of, pan, zoom}
use Rattle.cv_event.specs.declared.entry.Act.{Act}
use Rattle.cv_event.specs.declared.entry.Act.TheVariants as act
use Rattle.cv_event.specs.declared.entry.Entry.{Entry}
use Rattle.cv_event.specs.declared.entry.Fate.{Fate}
use Rattle.cv_event.specs.declared.refused.Reason.{Reason}
use Rattle.cv_event.specs.declared.refused.Refused.{Refused}
use Rattle.cv_event.specs.declared.slot.Task.{Task}
use Rattle.cv_event.specs.declared.slot.Task.TheVariants.{Look, Compose}
use Rattle.cv_event.specs.States.{Canvas, State, view_on}
use Rattle.cv_event.specs.Legality.{how, task}
use Rattle.cv_event.specs.Readings.{IsShort, IsLong, FitsAct, FitsEntry, FitsRefused}
use Rattle.cv_event.specs.Legality.{IsLegal}
use Rattle.cv_event.specs.TextLaws.{FitsText, FitsOpening, edit_of, all_edits}
use Rattle.cv_event.proofs.FitLemmas.{legal_acts_fit}
use Rattle.cv_event.proofs.TextLemmas.{text_and_edits_tell_journal}
use Rattle.cv_script.specs.declared.script.Command.{Command}
use Rattle.cv_script.specs.declared.script.Command.TheVariants as command
use Rattle.cv_script.specs.declared.script.Numbered.{Numbered}
use Rattle.cv_session.specs.Responses.{last_job, claimed, response, done_by, fate_at, edit_reason}
use Rattle.cv_session.specs.Plays.{Awaited, Mode, Opens, Begins, GivesOne, GivesAll, Works, Closes, Play, act_of}
use Rattle.cv_session.specs.Plays.{planned_next, planned_held, planned_work, planned_in, planned, claims, claims_next, fails_in, fails, passed, entered, refusals, picture_by, through, next_in, next, entry_by, is_of_worker}
use Rattle.cv_session.specs.Plays.{Plays, stops, quiet, own, failed, other}
use Rattle.cv_session.specs.Follows.{Follows}
use Rattle.cv_session.specs.Laws.{edit_in, edits_in, EditsAreOfScript, ScriptAndTextTellJournal}
use Rattle.cv_session.specs.Entered.{IsClaim, IsViewed, MayAct}
use Rattle.cv_session.proofs.EnteredLemmas.{act_may}
use Rattle.cv_session.proofs.PlayLemmas.{line_of, IsLineOf, IsSilent, Silently, turns, refuses, begins, lets, ends, ends_badly, silently, same_some}

-- ---- acts that no command has: of tasks, and of the first views

pub record IsPlain (d : Act) : Type 0 where
  pub edit : edit_of d ≡ None
  pub picture : (s : State) → picture_by s d ≡ None

done_plain : (s : State) (t : Task) (d : Act) → done_by s t ≡ Some d → IsPlain d
done_plain s (Look j at) d h = delivered_plain j at (fate_at s j at) d h
  where
    delivered_plain : (j at : ℕ) (o : Option Fate) (d : Act) → option_map (act.Deliver j at) o ≡ Some d → IsPlain d
    delivered_plain j at None d h = absurd cc
    delivered_plain j at (Some fate) d h = subst IsPlain (same_some h) (record { edit = refl; picture = λ s. refl })
done_plain s (Compose j) d h = finished_plain j (is_some (how s j)) d h
  where
    finished_plain : (j : ℕ) (x : Bool) (d : Act) → (if x then None else Some (act.Finish j)) ≡ Some d → IsPlain d
    finished_plain j true d h = absurd cc
    finished_plain j false d h = subst IsPlain (same_some h) (record { edit = refl; picture = λ s. refl })

claimed_plain : (s : State) (t : Task) → IsPlain (claimed s t)
claimed_plain s (Look j at) = record { edit = refl; picture = λ s. refl }
claimed_plain s (Compose j) = record { edit = refl; picture = λ s. refl }

held_plain : (ts : List Task) (a : Play) (d : Act) → planned_held ts a ≡ Some d → IsPlain d
held_plain [] a d h = absurd cc
held_plain (t ∷ ts) a d h = done_plain a.state t d h

work_plain : (w : Awaited) (ts : List Task) (a : Play) (d : Act) → planned_work w ts a ≡ Some d → IsPlain d
work_plain w [] a d h = claim_plain (is_some (how a.known w.job)) (task a.state) a.state d h
  where
    claim_plain : (x : Bool) (o : Option Task) (s : State) (d : Act) → (if x then None else option_map (claimed s) o) ≡ Some d → IsPlain d
    claim_plain true o s d h = absurd cc
    claim_plain false None s d h = absurd cc
    claim_plain false (Some t) s d h = subst IsPlain (same_some h) (claimed_plain s t)
work_plain w (t ∷ ts) a d h = done_plain a.state t d h

open_plain : (c : ℕ) (views : List (Option PixelGrid)) (a : Play) (d : Act) → planned_in (Opens c views) a ≡ Some d → IsPlain d
open_plain c [] a d h = absurd cc
open_plain c (None ∷ views) a d h = absurd cc
open_plain c (Some view ∷ views) a d h = subst IsPlain (same_some h) (record { edit = refl; picture = λ s. refl })

-- ---- the play behind an entry

-- it has the commands, the refused lines and the files that it had
pub record IsSame (a b : Play) : Type 0 where
  pub commands : b.commands ≡ a.commands
  pub refused : b.refused ≡ a.refused
  pub written : b.written ≡ a.written
  pub line : IsLineOf (line_of b.mode) (line_of a.mode)

-- an entry is of the next command, or of none
pub data Entering (a : Play) (d : Act) : Type 0 where
  by_command : (n : Numbered) (rest : List Numbered) → a.commands ≡ n ∷ rest
      → act_of (response a.state (length a.held) n.command) ≡ Some d → next d a ≡ through (n ∷ rest) d (entered d a) → Entering a d
  by_task : IsPlain d → IsSame a (next d a) → Entering a d

same_in : (m : Mode) (d : Act) (a : Play) → a.mode ≡ m → (m ≡ Begins → ⊥) → IsSame a (next_in m d (entered d a))
same_in (Opens c views) d a e apart = record { commands = refl; refused = refl; written = refl; line = inl refl }
same_in Begins d a e apart = absurd (apart refl)
same_in GivesOne d a e apart = record { commands = refl; refused = refl; written = refl; line = inl refl }
same_in (GivesAll w) d a e apart = record { commands = refl; refused = refl; written = refl; line = inr (sym (ap line_of e)) }
same_in (Works w) d a e apart = record { commands = refl; refused = refl; written = refl; line = inr (sym (ap line_of e)) }
same_in Closes d a e apart = record { commands = refl; refused = refl; written = refl; line = inl refl }

same_where : (m : Mode) (d : Act) (a : Play) → a.mode ≡ m → (m ≡ Begins → ⊥) → IsSame a (next d a)
same_where m d a e apart = subst (λ (m : Mode). IsSame a (next_in m d (entered d a))) (sym e) (same_in m d a e apart)

command_entering : (cs : List Numbered) (a : Play) (d : Act) → a.mode ≡ Begins → a.commands ≡ cs → planned_next cs a ≡ Some d → Entering a d
command_entering [] a d m e h = absurd cc
command_entering (n ∷ rest) a d m e h =
    by_command n rest e h (ap (λ (m : Mode). next_in m d (entered d a)) m ∙ ap (λ (cs : List Numbered). through cs d (entered d a)) e)

entering_in : (m : Mode) (a : Play) (d : Act) → a.mode ≡ m → planned_in m a ≡ Some d → Entering a d
entering_in (Opens c views) a d e h = by_task (open_plain c views a d h) (same_where (Opens c views) d a e (λ x. absurd cc))
entering_in Begins a d e h = command_entering a.commands a d e refl h
entering_in GivesOne a d e h = by_task (held_plain a.held a d h) (same_where GivesOne d a e (λ x. absurd cc))
entering_in (GivesAll w) a d e h = by_task (held_plain a.held a d h) (same_where (GivesAll w) d a e (λ x. absurd cc))
entering_in (Works w) a d e h = by_task (work_plain w a.held a d h) (same_where (Works w) d a e (λ x. absurd cc))
entering_in Closes a d e h = by_task (held_plain a.held a d h) (same_where Closes d a e (λ x. absurd cc))

pub entering : (a : Play) (d : Act) → planned a ≡ Some d → Entering a d
entering a d h = entering_in a.mode a d refl h

-- a fail is in the place of a command that claims, or of none
pub data Failing (a : Play) (j : ℕ) : Type 0 where
  of_claim : (n : Numbered) (rest : List Numbered) → a.commands ≡ n ∷ rest → n.command ≡ command.Take
      → next (act.Fail j) a ≡ through (n ∷ rest) (act.Fail j) (entered (act.Fail j) a) → Failing a j
  of_task : IsSame a (next (act.Fail j) a) → Failing a j

is_take : (held : ℕ) (c : Command) → claims held c ≡ true → c ≡ command.Take
is_take held command.Take h = refl
is_take held (command.View c e) h = absurd (false≢true h)
is_take held (command.Pan c dx dy) h = absurd (false≢true h)
is_take held (command.Zoom c num den) h = absurd (false≢true h)
is_take held (command.Start c) h = absurd (false≢true h)
is_take held (command.Cancel c) h = absurd (false≢true h)
is_take held (command.Wait c) h = absurd (false≢true h)
is_take held command.Give h = absurd (false≢true h)
is_take held (command.Preview c file) h = absurd (false≢true h)
is_take held (command.Save c file) h = absurd (false≢true h)
is_take held (command.Edit e) h = absurd (false≢true h)

pub first_of : (x y : Bool) → (x && y) ≡ true → x ≡ true
first_of true y h = refl
first_of false y h = absurd (false≢true h)

claim_failing : (cs : List Numbered) (a : Play) (j : ℕ) → a.mode ≡ Begins → a.commands ≡ cs → claims_next (length a.held) cs ≡ true → Failing a j
claim_failing [] a j m e h = absurd (false≢true h)
claim_failing (n ∷ rest) a j m e h =
    of_claim n rest e (is_take (length a.held) n.command h)
    (ap (λ (m : Mode). next_in m (act.Fail j) (entered (act.Fail j) a)) m ∙ ap (λ (cs : List Numbered). through cs (act.Fail j) (entered (act.Fail j) a)) e)

failing_in : (m : Mode) (a : Play) (j : ℕ) → a.mode ≡ m → fails_in m a j ≡ true → Failing a j
failing_in (Opens c views) a j e h = absurd (false≢true h)
failing_in Begins a j e h = claim_failing a.commands a j e refl (first_of _ _ h)
failing_in GivesOne a j e h = of_task (same_where GivesOne (act.Fail j) a e (λ x. absurd cc))
failing_in (GivesAll w) a j e h = of_task (same_where (GivesAll w) (act.Fail j) a e (λ x. absurd cc))
failing_in (Works w) a j e h = of_task (same_where (Works w) (act.Fail j) a e (λ x. absurd cc))
failing_in Closes a j e h = of_task (same_where Closes (act.Fail j) a e (λ x. absurd cc))

pub failing : (a : Play) (j : ℕ) → fails a j ≡ true → Failing a j
failing a j h = failing_in a.mode a j refl h

-- ---- edits

-- what holds of what is there
pub from_some : {A : Type 0} (P : A → Type 0) (o : Option A) (Q : Type 0) → IsSomeAnd o P → ((x : A) → P x → Q) → Q
from_some P None Q h g = absurd h
from_some P (Some x) Q h g = g x h

viewed_edit : (c : ℕ) (r : Result PixelGrid ViewError) (d : Act) → IsViewed c r d → edit_of d ≡ None
viewed_edit c (Ok view) d h = ap edit_of h
viewed_edit c (Err error) d h = absurd h

claim_edit : (d : Act) → IsClaim d → edit_of d ≡ None
claim_edit (act.Look j at hit) m = refl
claim_edit (act.Compose j) m = refl
claim_edit (act.Edit e v) m = absurd m
claim_edit (act.View c view) m = absurd m
claim_edit (act.Start c j) m = absurd m
claim_edit (act.Deliver j at fate) m = absurd m
claim_edit (act.Finish j) m = absurd m
claim_edit (act.Fail j) m = absurd m
claim_edit (act.Cancel j) m = absurd m
claim_edit (act.Preview j ready) m = absurd m
claim_edit (act.Save c j) m = absurd m

may_edit : (s : State) (held : ℕ) (c : Command) (d : Act) → MayAct s held c d → edit_of d ≡ edit_in c
may_edit s held (command.Edit e) d m = ap edit_of m.1
may_edit s held (command.View c e) d m =
    from_some (λ (k : Canvas). IsViewed c (view_of e k.spec.w k.spec.h) d) (slice_get s.canvases c) _ m (λ k g. viewed_edit c _ d g)
may_edit s held (command.Pan c dx dy) d m =
    from_some (λ (v : PixelGrid). IsViewed c (pan v dx dy) d) (view_on s c) _ m (λ v g. viewed_edit c _ d g)
may_edit s held (command.Zoom c num den) d m =
    from_some (λ (v : PixelGrid). IsViewed c (zoom v num den) d) (view_on s c) _ m (λ v g. viewed_edit c _ d g)
may_edit s held (command.Start c) d m = ap edit_of m.1
may_edit s held (command.Cancel c) d m = from_some (λ (j : ℕ). d ≡ act.Cancel j) (last_job s c) _ m.1 (λ j g. ap edit_of g)
may_edit s held (command.Preview c file) d m =
    from_some (λ (j : ℕ). (ready : ℕ) × (d ≡ act.Preview j ready)) (last_job s c) _ m.1 (λ j g. ap edit_of g.1)
may_edit s held (command.Save c file) d m = ap edit_of m.1
may_edit s held command.Take d m = claim_edit d m.1
may_edit s held (command.Wait c) d m = absurd m
may_edit s held command.Give d m = absurd m

-- the edit of a command's act is the command's
edit_same : (s : State) (held : ℕ) (c : Command) (d : Act) → act_of (response s held c) ≡ Some d → edit_of d ≡ edit_in c
edit_same s held c d h = may_edit s held c d (act_may s held c d h)

-- an act that a command asks for silently isn't its edit
no_edit_silent : (s : State) (held : ℕ) (c : Command) → IsSilent (response s held c) → edit_in c ≡ None
no_edit_silent s held (command.Edit e) h = absurd h
no_edit_silent s held (command.View c e) h = refl
no_edit_silent s held (command.Pan c dx dy) h = refl
no_edit_silent s held (command.Zoom c num den) h = refl
no_edit_silent s held (command.Start c) h = refl
no_edit_silent s held (command.Cancel c) h = refl
no_edit_silent s held (command.Wait c) h = refl
no_edit_silent s held command.Take h = refl
no_edit_silent s held command.Give h = refl
no_edit_silent s held (command.Preview c file) h = refl
no_edit_silent s held (command.Save c file) h = refl

no_edit_taken : (c : Command) → c ≡ command.Take → edit_in c ≡ None
no_edit_taken c h = ap edit_in h

no_edit_worker : (d : Act) → is_of_worker d ≡ true → edit_of d ≡ None
no_edit_worker (act.Edit e v) h = absurd (false≢true h)
no_edit_worker (act.View c view) h = refl
no_edit_worker (act.Start c j) h = refl
no_edit_worker (act.Look j at hit) h = refl
no_edit_worker (act.Deliver j at fate) h = refl
no_edit_worker (act.Compose j) h = refl
no_edit_worker (act.Finish j) h = refl
no_edit_worker (act.Fail j) h = refl
no_edit_worker (act.Cancel j) h = refl
no_edit_worker (act.Preview j ready) h = refl
no_edit_worker (act.Save c j) h = refl

-- the edits of commands, where the first has this
edits_more : (n : Numbered) (cs rest : List Numbered) (o : Option Edit) → cs ≡ n ∷ rest → edit_in n.command ≡ o
    → edits_in cs ≡ cons_option o (edits_in rest)
edits_more n cs rest o e h = ap edits_in e ∙ ap (λ (o : Option Edit). cons_option o (edits_in rest)) h

edits_silent : {a b : Play} → Silently a b → edits_in b.commands ≡ edits_in a.commands
edits_silent (turns m l) = refl
edits_silent {a} (refuses n rest why c e) =
    sym (edits_more n a.commands rest None c (no_edit_silent a.state (length a.held) n.command (subst IsSilent (sym e) tt)))
edits_silent {a} (begins n rest m c e g l) = sym (edits_more n a.commands rest None c (no_edit_silent a.state (length a.held) n.command e))
edits_silent (lets m t ts e l h) = refl
edits_silent (ends w m e h) = refl
edits_silent (ends_badly w m e h) = refl

-- the edits of a journal, where the first entry has this
entries_more : (e : Entry) (es : List Entry) (o : Option Edit) → edit_of e.act ≡ o → all_edits (e ∷ es) ≡ cons_option o (all_edits es)
entries_more e es o h = ap (λ (o : Option Edit). cons_option o (all_edits es)) h

cons_more : (o : Option Edit) (xs ys : List Edit) → cons_option o xs ++ ys ≡ cons_option o (xs ++ ys)
cons_more None xs ys = refl
cons_more (Some e) xs ys = refl

edits_entered : (a : Play) (d : Act) (es : List Entry) (left : List Edit) → Entering a d
    → all_edits es ++ left ≡ edits_in (next d a).commands → all_edits (entry_by 0 d ∷ es) ++ left ≡ edits_in a.commands
edits_entered a d es left (by_command n rest c h e) k =
    ap (λ (xs : List Edit). xs ++ left) (entries_more (entry_by 0 d) es (edit_in n.command) (edit_same a.state (length a.held) n.command d h))
    ∙ cons_more (edit_in n.command) (all_edits es) left
    ∙ ap (cons_option (edit_in n.command)) (k ∙ ap (λ (b : Play). edits_in b.commands) e)
    ∙ sym (edits_more n a.commands rest (edit_in n.command) c refl)
edits_entered a d es left (by_task p same) k =
    ap (λ (xs : List Edit). xs ++ left) (entries_more (entry_by 0 d) es None p.edit) ∙ k ∙ ap edits_in same.commands

edits_failed : (a : Play) (j : ℕ) (left : List Edit) → Failing a j → edits_in (next (act.Fail j) a).commands ≡ edits_in a.commands
edits_failed a j left (of_claim n rest c h e) =
    ap (λ (b : Play). edits_in b.commands) e ∙ sym (edits_more n a.commands rest None c (no_edit_taken n.command h))
edits_failed a j left (of_task same) = ap edits_in same.commands

pub edits_played : {n : ℕ} {a b : Play} {es : List Entry} → Plays n a es b → all_edits es ++ edits_in b.commands ≡ edits_in a.commands
edits_played (stops a) = refl
edits_played (quiet a b c es h r) = edits_played r ∙ edits_silent (silently a b h)
edits_played (own a c d es h r) = edits_entered a d es (edits_in c.commands) (entering a d h) (edits_played r)
edits_played (failed a c j es h r) = edits_played r ∙ edits_failed a j (edits_in c.commands) (failing a j h)
edits_played (other a c e es low high is r) =
    ap (λ (xs : List Edit). xs ++ edits_in c.commands) (entries_more e es None (no_edit_worker e.act is)) ∙ edits_played r

pub edits_are_of_script : EditsAreOfScript
edits_are_of_script o views script workers journal refused f =
    sym (append-nil (all_edits journal)) ∙ ap (λ (xs : List Edit). all_edits journal ++ xs) (ap edits_in (sym f.is_through.commands)) ∙ edits_played f.plays

-- ---- numbers

-- how many entries are read
read_next : (m : Mode) (d : Act) (a : Play) → (next_in m d a).read ≡ a.read
read_next (Opens c views) d a = refl
read_next Begins d a = read_through a.commands d a
  where
    read_through : (cs : List Numbered) (d : Act) (a : Play) → (through cs d a).read ≡ a.read
    read_through [] d a = refl
    read_through (n ∷ rest) d a = refl
read_next GivesOne d a = refl
read_next (GivesAll w) d a = refl
read_next (Works w) d a = refl
read_next Closes d a = refl

read_silent : {a b : Play} → Silently a b → b.read ≡ a.read
read_silent (turns m l) = refl
read_silent (refuses n rest why c e) = refl
read_silent (begins n rest m c e g l) = refl
read_silent (lets m t ts e l h) = refl
read_silent (ends w m e h) = refl
read_silent (ends_badly w m e h) = refl

pub read_played : {n : ℕ} {a b : Play} {es : List Entry} → Plays n a es b → b.read ≡ a.read + length es
read_played (stops a) = omega arith
read_played (quiet a b c es h r) = read_played r ∙ ap (λ (n : ℕ). n + length es) (read_silent (silently a b h))
read_played (own a c d es h r) =
    let k = read_played r in
    let l : (next d a).read ≡ suc a.read = read_next a.mode d (entered d a) in
    let m : length (entry_by 0 d ∷ es) ≡ suc (length es) = refl in
    omega (arith, k, l, m)
read_played (failed a c j es h r) =
    let k = read_played r in
    let l : (next (act.Fail j) a).read ≡ suc a.read = read_next a.mode (act.Fail j) (entered (act.Fail j) a) in
    let m : length (entry_by 0 (act.Fail j) ∷ es) ≡ suc (length es) = refl in
    omega (arith, k, l, m)
read_played (other a c e es low high is r) =
    let k = read_played r in
    let l : (passed e a).read ≡ suc a.read = refl in
    let m : length (e ∷ es) ≡ suc (length es) = refl in
    omega (arith, k, l, m)

-- the refused lines and the commands have lines of a script, and a line was seen that was read
abbrev pub IsLine : ℕ → Refused → Type 0
IsLine read r = IsShort r.line × (r.seen ≤ read)

abbrev pub IsInScript : Numbered → Type 0
IsInScript n = IsShort n.line

pub record Fits (a : Play) : Type 0 where
  pub refused : AllByRecursion (IsLine a.read) a.refused
  pub commands : AllByRecursion IsInScript a.commands
  pub line : IsShort (line_of a.mode)

lines_append : (read : ℕ) (xs ys : List Refused) → AllByRecursion (IsLine read) xs → AllByRecursion (IsLine read) ys → AllByRecursion (IsLine read) (xs ++ ys)
lines_append read [] ys f g = g
lines_append read (x ∷ xs) ys f g = (f.0, lines_append read xs ys f.1 g)

lines_later : (m n : ℕ) (xs : List Refused) → m ≤ n → AllByRecursion (IsLine m) xs → AllByRecursion (IsLine n) xs
lines_later m n [] l f = tt
lines_later m n (x ∷ xs) l f = ((f.0.0, omega (arith, l, f.0.1)), lines_later m n xs l f.1)

split_lines : (n : Numbered) (cs rest : List Numbered) → cs ≡ n ∷ rest → AllByRecursion IsInScript cs → IsInScript n × AllByRecursion IsInScript rest
split_lines n cs rest e f = subst (AllByRecursion IsInScript) e f

low : (x y : ℕ) → IsLineOf x y → IsShort y → IsShort x
low x y l h = ⊎_elim (λ e. omega (arith, e)) (λ e. omega (arith, e, h)) l

fits_silent : {a b : Play} → Silently a b → Fits a → Fits b
fits_silent {a} (turns m l) f = record { refused = f.refused; commands = f.commands; line = low _ _ l f.line }
fits_silent {a} (refuses n rest why c e) f =
    let cs = split_lines n a.commands rest c f.commands in
    record { refused = lines_append a.read a.refused _ f.refused ((cs.0, omega arith), tt); commands = cs.1; line = f.line }
fits_silent {a} (begins n rest m c e g l) f =
    let cs = split_lines n a.commands rest c f.commands in
    record { refused = f.refused; commands = cs.1; line = low _ _ l cs.0 }
fits_silent {a} (lets m t ts e l h) f = record { refused = f.refused; commands = f.commands; line = low _ _ l f.line }
fits_silent {a} (ends w m e h) f = record { refused = f.refused; commands = f.commands; line = omega arith }
fits_silent {a} (ends_badly w m e h) f = record {
  refused = lines_append a.read a.refused _ f.refused ((rw (ap line_of m) at f.line, omega arith), tt);
  commands = f.commands;
  line = omega arith;
}

reason_fits : (line read : ℕ) (o : Option Reason) → IsShort line
    → AllByRecursion (IsLine read) (option_to_list (option_map (λ why. record { line = line; seen = read; reason = why }) o))
reason_fits line read None l = tt
reason_fits line read (Some why) l = ((l, omega arith), tt)

refusals_fit : (line read : ℕ) (d : Act) → IsShort line → AllByRecursion (IsLine read) (refusals line read d)
refusals_fit line read (act.Edit e None) l = tt
refusals_fit line read (act.Edit e (Some error)) l = reason_fits line read (edit_reason error) l
refusals_fit line read (act.View c view) l = tt
refusals_fit line read (act.Start c j) l = tt
refusals_fit line read (act.Look j at hit) l = tt
refusals_fit line read (act.Deliver j at fate) l = tt
refusals_fit line read (act.Compose j) l = tt
refusals_fit line read (act.Finish j) l = tt
refusals_fit line read (act.Fail j) l = tt
refusals_fit line read (act.Cancel j) l = tt
refusals_fit line read (act.Preview j ready) l = tt
refusals_fit line read (act.Save c j) l = tt

fits_through : (n : Numbered) (rest : List Numbered) (d : Act) (a : Play) → a.commands ≡ n ∷ rest → Fits a → Fits (through (n ∷ rest) d (entered d a))
fits_through n rest d a c f =
    let cs = split_lines n a.commands rest c f.commands in
    record {
      refused = lines_append (suc a.read) a.refused _ (lines_later a.read (suc a.read) a.refused (omega arith) f.refused) (refusals_fit n.line (suc a.read) d cs.0);
      commands = cs.1;
      line = f.line;
    }

fits_same : (m : ℕ) (a b : Play) → IsSame a b → b.read ≡ suc a.read → Fits a → Fits b
fits_same m a b s r f = record {
  refused = subst (λ (xs : List Refused). AllByRecursion (IsLine b.read) xs) (sym s.refused) (lines_later a.read b.read a.refused (omega (arith, r)) f.refused);
  commands = subst (AllByRecursion IsInScript) (sym s.commands) f.commands;
  line = low _ _ s.line f.line;
}

fits_entered : (a : Play) (d : Act) → Entering a d → Fits a → Fits (next d a)
fits_entered a d (by_command n rest c h e) f = subst Fits (sym e) (fits_through n rest d a c f)
fits_entered a d (by_task p s) f = fits_same 0 a (next d a) s (read_next a.mode d (entered d a)) f

fits_failed : (a : Play) (j : ℕ) → Failing a j → Fits a → Fits (next (act.Fail j) a)
fits_failed a j (of_claim n rest c h e) f = subst Fits (sym e) (fits_through n rest (act.Fail j) a c f)
fits_failed a j (of_task s) f = fits_same 0 a (next (act.Fail j) a) s (read_next a.mode (act.Fail j) (entered (act.Fail j) a)) f

fits_passed : (e : Entry) (a : Play) → Fits a → Fits (passed e a)
fits_passed e a f = record { refused = lines_later a.read (suc a.read) a.refused (omega arith) f.refused; commands = f.commands; line = f.line }

pub fits_played : {n : ℕ} {a b : Play} {es : List Entry} → Plays n a es b → Fits a → Fits b
fits_played (stops a) f = f
fits_played (quiet a b c es h r) f = fits_played r (fits_silent (silently a b h) f)
fits_played (own a c d es h r) f = fits_played r (fits_entered a d (entering a d h) f)
fits_played (failed a c j es h r) f = fits_played r (fits_failed a j (failing a j h) f)
fits_played (other a c e es low high is r) f = fits_played r (fits_passed e a f)

-- the callers' numbers
abbrev pub IsCaller : ℕ → Entry → Type 0
IsCaller n e = e.caller ≤ n

pub callers_played : {n : ℕ} {a b : Play} {es : List Entry} → Plays n a es b → AllByRecursion (IsCaller n) es
callers_played (stops a) = tt
callers_played (quiet a b c es h r) = callers_played r
callers_played (own a c d es h r) = (omega arith, callers_played r)
callers_played (failed a c j es h r) = (omega arith, callers_played r)
callers_played (other a c e es low high is r) = (high, callers_played r)

-- ---- the text

entries_fit : (n : ℕ) (es : List Entry) → IsShort n → AllByRecursion (IsCaller n) es → AllByRecursion (λ (e : Entry). FitsAct e.act) es
    → AllByRecursion FitsEntry es
entries_fit n [] s f g = tt
entries_fit n (e ∷ es) s f g = ((omega (arith, s, f.0), g.0), entries_fit n es s f.1 g.1)

lines_fit : (read : ℕ) (rs : List Refused) → IsLong read → AllByRecursion (IsLine read) rs → AllByRecursion FitsRefused rs
lines_fit read [] l f = tt
lines_fit read (r ∷ rs) l f = ((f.0.0, omega (arith, f.0.1, l)), lines_fit read rs l f.1)

text_fits : (o : Opening) (views : List (Option PixelGrid)) (script : List Numbered) (n : ℕ) (xs : List Entry) (p : List Refused) (k : ℕ)
    → FitsOpening o → AllByRecursion IsInScript script → IsShort n → IsLong (length xs) → IsLong k → IsLegal o xs
    → Follows o views script n xs p → FitsText xs p k
text_fits o views script n xs p k small is short long files legal f =
    let read : f.last.read ≡ length xs = read_played f.plays ∙ omega arith in
    let fits = fits_played f.plays (record { refused = tt; commands = is; line = omega arith }) in
    record {
      entries = entries_fit n xs short (callers_played f.plays) (legal_acts_fit o xs small legal);
      count = long;
      commands = subst (AllByRecursion FitsRefused) f.refused_are (lines_fit f.last.read f.last.refused (omega (arith, read, long)) fits.refused);
      files = files;
    }

pub script_and_text_tell_journal : ScriptAndTextTellJournal
script_and_text_tell_journal o views script m n xs ys p q k l small is short_m short_n long_x long_y files_x files_y legal_x legal_y f g t =
    text_and_edits_tell_journal xs ys p q k l
    (text_fits o views script m xs p k small is short_m long_x files_x legal_x f)
    (text_fits o views script n ys q l small is short_n long_y files_y legal_y g)
    (edits_are_of_script o views script m xs p f ∙ sym (edits_are_of_script o views script n ys q g)) t
