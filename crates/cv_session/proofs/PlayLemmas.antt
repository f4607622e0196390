-- Plays: how they join, and the silent steps by their kinds.
use Rattle.std.proofs.Common.{◌≡◌, ◌⊎◌, inl, inr, refl, ap, sym, ℕ, suc, Bool, true, false, ◌&&◌, if◌then◌else◌}
use Rattle.std.proofs.Common.{List, [], ◌∷◌, ◌++◌, length, slice_get, Option, Some, None, is_some, subst}
use Rattle.cv_event.specs.declared.entry.Entry.{Entry}
use Rattle.cv_event.specs.declared.entry.How.{How}
use Rattle.cv_event.specs.declared.entry.How.TheVariants as how_of
use Rattle.cv_event.specs.declared.refused.Reason.{Reason}
use Rattle.cv_event.specs.declared.refused.Reason.TheVariants as reason
use Rattle.cv_event.specs.declared.slot.Task.{Task}
use Rattle.cv_event.specs.declared.slot.Task.TheVariants.{Look, Compose}
use Rattle.cv_event.specs.States.{Canvas, State}
use Rattle.cv_event.specs.Legality.{how}
use Rattle.cv_event.specs.declared.entry.Act.{Act}
use Rattle.cv_event.specs.declared.entry.Act.TheVariants as act
use Rattle.cv_script.specs.declared.script.Command.{Command}
use Rattle.cv_script.specs.declared.script.Command.TheVariants as command
use Rattle.std.specs.Option.{option_map_or}
use Rattle.cv_script.specs.declared.script.Numbered.{Numbered}
use Rattle.cv_session.specs.Responses.{Response, Does, Refuses, Gives, Waits, last_job, unless_ended, ready_of, saves, response, job_of_task}
use Rattle.cv_session.specs.Plays.{Awaited, Mode, Opens, Begins, GivesOne, GivesAll, Works, Closes, Play, knowing, turned, letting}
use Rattle.cv_session.specs.Plays.{refusing, begun, begun_next, let_go, given_all, waited, is_overtaken, worked}
use Rattle.cv_session.specs.Plays.{file_of, silent_in, silent, Plays, stops, quiet, own, failed, other}

-- two plays, one behind the other
pub joined : {n : ℕ} {a b : Play} {xs : List Entry} (ys : List Entry) (c : Play) → Plays n a xs b → Plays n b ys c → Plays n a (xs ++ ys) c
joined ys c (stops a) p = p
joined ys c (quiet a b _ es e r) p = quiet a b c (es ++ ys) e (joined ys c r p)
joined ys c (own a _ d es e r) p = own a c d (es ++ ys) e (joined ys c r p)
joined ys c (failed a _ j es e r) p = failed a c j (es ++ ys) e (joined ys c r p)
joined ys c (other a _ e es low high is r) p = other a c e (es ++ ys) low high is (joined ys c r p)

-- ---- silent steps

-- the line of the `wait` that a session is about, or 0
abbrev pub line_of : Mode → ℕ
line_of (Opens c views) = 0
line_of Begins = 0
line_of GivesOne = 0
line_of (GivesAll w) = w.line
line_of (Works w) = w.line
line_of Closes = 0

-- a line is none, or this one
abbrev pub IsLineOf : ℕ → ℕ → Type 0
IsLineOf x y = (x ≡ 0) ⊎ (x ≡ y)

-- a response asks for no entry
abbrev pub IsSilent : Response → Type 0
IsSilent (Does d) = ⊥
IsSilent (Refuses why) = Unit {0}
IsSilent Gives = Unit {0}
IsSilent (Waits j) = Unit {0}

-- a response asks for held tasks
abbrev pub IsLater : Response → Type 0
IsLater (Does d) = ⊥
IsLater (Refuses why) = ⊥
IsLater Gives = Unit {0}
IsLater (Waits j) = Unit {0}

later_or : {A : Type 0} (f : A → Response) (o : Option A) (r : Response) → ((x : A) → IsLater (f x) → ⊥) → (IsLater r → ⊥)
    → IsLater (option_map_or f o r) → ⊥
later_or f None r g h l = h l
later_or f (Some x) r g h l = g x l

later_unless : (o : Option How) (d : Act) → IsLater (unless_ended o d) → ⊥
later_unless None d l = l
later_unless (Some h) d l = l

-- such a command writes no file
no_file_later : (s : State) (held : ℕ) (c : Command) → IsLater (response s held c) → file_of c ≡ None
no_file_later s held (command.Edit e) l = refl
no_file_later s held (command.View c e) l = refl
no_file_later s held (command.Pan c dx dy) l = refl
no_file_later s held (command.Zoom c num den) l = refl
no_file_later s held (command.Start c) l = refl
no_file_later s held (command.Cancel c) l = refl
no_file_later s held (command.Wait c) l = refl
no_file_later s held command.Take l = refl
no_file_later s held command.Give l = refl
no_file_later s held (command.Preview c file) l =
    absurd (later_or (λ (k : Canvas). option_map_or (λ j. unless_ended (how s j) (act.Preview j (ready_of s j))) (last_job s c) (Refuses reason.NoJob)) (slice_get s.canvases c) (Refuses reason.UnknownCanvas)
    (λ k. later_or (λ j. unless_ended (how s j) (act.Preview j (ready_of s j))) (last_job s c) (Refuses reason.NoJob) (λ j. later_unless (how s j) (act.Preview j (ready_of s j))) (λ x. x)) (λ x. x) l)
no_file_later s held (command.Save c file) l =
    absurd (later_or (λ (k : Canvas). option_map_or (saves c) k.published (Refuses reason.Nothing)) (slice_get s.canvases c) (Refuses reason.UnknownCanvas)
    (λ k. later_or (saves c) k.published (Refuses reason.Nothing) (λ t x. x) (λ x. x)) (λ x. x) l)

-- the kinds of silent steps
pub data Silently (a : Play) : Play → Type 0 where
  turns : (m : Mode) → IsLineOf (line_of m) (line_of a.mode) → Silently a (turned m a)
  refuses : (n : Numbered) (rest : List Numbered) (why : Reason) → a.commands ≡ n ∷ rest
      → response a.state (length a.held) n.command ≡ Refuses why → Silently a (refusing n.line why (record a { commands = rest }))
  begins : (n : Numbered) (rest : List Numbered) (m : Mode) → a.commands ≡ n ∷ rest
      → IsSilent (response a.state (length a.held) n.command) → file_of n.command ≡ None → IsLineOf (line_of m) n.line
      → Silently a (record a { commands = rest; mode = m })
  lets : (m : Mode) (t : Task) (ts : List Task) → a.held ≡ t ∷ ts → IsLineOf (line_of m) (line_of a.mode) → is_some (how a.state (job_of_task t)) ≡ true
      → Silently a (letting m ts a)
  ends : (w : Awaited) → a.mode ≡ Works w → a.held ≡ [] → is_some (how a.state w.job) ≡ true → Silently a (knowing (turned Begins a))
  ends_badly : (w : Awaited) → a.mode ≡ Works w → a.held ≡ [] → is_some (how a.state w.job) ≡ true
      → Silently a (refusing w.line reason.EndedNoMemory (turned Begins a))

-- what is Some
pub same_some : {A : Type 0} {x y : A} → Some x ≡ Some y → x ≡ y
same_some {A} {x} {y} h = cc

to : {a : Play} (b c : Play) → Some b ≡ Some c → Silently a b → Silently a c
to {a} b c h s = subst (Silently a) (same_some h) s

begun_kind : (n : Numbered) (rest : List Numbered) (r : Response) (a b : Play) → a.commands ≡ n ∷ rest
    → response a.state (length a.held) n.command ≡ r → begun n.line rest r a ≡ Some b → Silently a b
begun_kind n rest (Does d) a b c e h = absurd cc
begun_kind n rest (Refuses why) a b c e h = to _ b h (refuses n rest why c e)
begun_kind n rest Gives a b c e h = to _ b h (begins n rest GivesOne c (subst IsSilent (sym e) tt) (no_file_later a.state (length a.held) n.command (subst IsLater (sym e) tt)) (inl refl))
begun_kind n rest (Waits j) a b c e h =
    to _ b h (begins n rest (GivesAll (record { line = n.line; job = j })) c (subst IsSilent (sym e) tt) (no_file_later a.state (length a.held) n.command (subst IsLater (sym e) tt)) (inr refl))

next_kind : (cs : List Numbered) (a b : Play) → a.commands ≡ cs → begun_next cs a ≡ Some b → Silently a b
next_kind [] a b e h = to _ b h (turns Closes (inl refl))
next_kind (n ∷ rest) a b e h = begun_kind n rest _ a b e refl h

compose_kind : (m : Mode) (j : ℕ) (ts : List Task) (a b : Play) (x : Bool) → a.held ≡ Compose j ∷ ts → IsLineOf (line_of m) (line_of a.mode)
    → is_some (how a.state j) ≡ x → (if x then Some (letting m ts a) else None) ≡ Some b → Silently a b
compose_kind m j ts a b true e l i h = to _ b h (lets m (Compose j) ts e l i)
compose_kind m j ts a b false e l i h = absurd cc

let_kind : (m : Mode) (ts : List Task) (a b : Play) → a.held ≡ ts → IsLineOf (line_of m) (line_of a.mode) → let_go m ts a ≡ Some b → Silently a b
let_kind m [] a b e l h = absurd cc
let_kind m (Look j at ∷ ts) a b e l h = absurd cc
let_kind m (Compose j ∷ ts) a b e l h = compose_kind m j ts a b _ e l refl h

given_kind : (w : Awaited) (ts : List Task) (a b : Play) → a.held ≡ ts → IsLineOf w.line (line_of a.mode) → given_all w ts a ≡ Some b → Silently a b
given_kind w [] a b e l h = to _ b h (turns (Works w) l)
given_kind w (t ∷ ts) a b e l h = let_kind (GivesAll w) (t ∷ ts) a b e l h

waited_kind : (w : Awaited) (o : Option How) (a b : Play) → a.mode ≡ Works w → a.held ≡ [] → how a.state w.job ≡ o → waited w o a ≡ Some b → Silently a b
waited_kind w None a b m e o h = absurd cc
waited_kind w (Some how_of.Finished) a b m e o h = to _ b h (ends w m e (ap is_some o))
waited_kind w (Some how_of.Cancelled) a b m e o h = to _ b h (ends w m e (ap is_some o))
waited_kind w (Some how_of.NoMemory) a b m e o h = to _ b h (ends_badly w m e (ap is_some o))

first_true : (x y : Bool) → (x && y) ≡ true → x ≡ true
first_true true y h = refl
first_true false y h = absurd cc

overtaken_kind : (w : Awaited) (t : Task) (ts : List Task) (a b : Play) (x : Bool) → a.held ≡ t ∷ ts → IsLineOf w.line (line_of a.mode)
    → is_overtaken t a ≡ x → (if x then Some (letting (Works w) ts a) else None) ≡ Some b → Silently a b
overtaken_kind w t ts a b true e l o h = to _ b h (lets (Works w) t ts e l (first_true _ _ o))
overtaken_kind w t ts a b false e l o h = absurd cc

worked_kind : (w : Awaited) (ts : List Task) (a b : Play) → a.mode ≡ Works w → a.held ≡ ts → worked w ts a ≡ Some b → Silently a b
worked_kind w [] a b m e h = waited_kind w _ a b m e refl h
worked_kind w (t ∷ ts) a b m e h = overtaken_kind w t ts a b _ e (inr (sym (ap line_of m))) refl h

kind_in : (m : Mode) (a b : Play) → a.mode ≡ m → silent_in m a ≡ Some b → Silently a b
kind_in (Opens c []) a b e h = to _ b h (turns Begins (inl refl))
kind_in (Opens c (None ∷ views)) a b e h = to _ b h (turns (Opens (suc c) views) (inl refl))
kind_in (Opens c (Some view ∷ views)) a b e h = absurd cc
kind_in Begins a b e h = next_kind a.commands a b refl h
kind_in GivesOne a b e h = let_kind Begins a.held a b refl (inl refl) h
kind_in (GivesAll w) a b e h = given_kind w a.held a b refl (inr (sym (ap line_of e))) h
kind_in (Works w) a b e h = worked_kind w a.held a b e refl h
kind_in Closes a b e h = let_kind Closes a.held a b refl (inl refl) h

-- a silent step is of one of the kinds
pub silently : (a b : Play) → silent a ≡ Some b → Silently a b
silently a b h = kind_in a.mode a b refl h
