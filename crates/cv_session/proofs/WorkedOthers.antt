-- Worked scripts with other callers, with want of memory, and with a task that is let go.
use Rattle.std.proofs.Common.{◌≡◌, refl, ◌∙◌, ap, arith, ◌≤◌, ℕ, zero, suc, ◌==◌, Bool, true, false, ◌&&◌, ◌||◌, if◌then◌else◌, List, [], ◌∷◌, ◌++◌, is_some, Option, Some}
use Rattle.std.specs.List.{list_any}
use Rattle.std.specs.Option.{option_map_or}
use Rattle.std.proofs.lemmas.Bool.{false≢true}
use Rattle.std.proofs.lemmas.Bool.Decides.{nat_tests}
use Rattle.cv_model.specs.declared.edit.Edit.TheVariants.{SetOpacity}
use Rattle.cv_model.specs.Edits.{verdict, is_over, most_edits}
use Rattle.cv_event.specs.declared.entry.Act.{Act}
use Rattle.cv_event.specs.declared.entry.Act.TheVariants.{View, Start, Look, Deliver, Compose, Finish, Fail, Cancel}
use Rattle.cv_event.specs.declared.entry.Entry.{Entry}
use Rattle.cv_event.specs.declared.entry.Fate.TheVariants.{Stored}
use Rattle.cv_event.specs.declared.refused.Reason.TheVariants as reason
use Rattle.cv_event.specs.declared.refused.Refused.{Refused}
use Rattle.cv_event.proofs.WorkedJournals.{two_layers, view_from, own, viewed, accepted}
use Rattle.cv_script.specs.declared.script.Command.{Command}
use Rattle.cv_script.specs.declared.script.Command.TheVariants as command
use Rattle.cv_session.specs.Plays.{Mode, Closes, Play, silent, planned, passed, next, entry_by, Plays, stops, quiet, own as enters, failed, other as passes}
use Rattle.cv_session.specs.Follows.{IsThrough, Follows}
use Rattle.cv_session.specs.Laws.{HasMemory}
use Rattle.cv_session.proofs.WorkedPlays.{lines_from, views, refused_at, once, Ends}

-- ---- want of memory, and a task that is let go

-- the delivery wants memory, and the job fails in its place
fails_follows : Follows two_layers views (lines_from 1 once) 0 (own (viewed ++ Look 1 0 false ∷ Fail 1 ∷ []))
    (refused_at 2 4 reason.EndedNoMemory ∷ refused_at 3 4 reason.Nothing ∷ [])
fails_follows = record {
  last = _;
  plays = enters _ _ _ _ refl (quiet _ _ _ _ refl (enters _ _ _ _ refl (quiet _ _ _ _ refl (quiet _ _ _ _ refl
      (enters _ _ _ _ refl (failed _ _ _ _ refl (quiet _ _ _ _ refl (quiet _ _ _ _ refl (quiet _ _ _ _ refl (stops _))))))))));
  is_through = record { mode = refl; held = refl; commands = refl };
  refused_are = refl;
}

-- a composition of a job that was cancelled meanwhile is given without an entry
abbrev composed : List Command
composed = command.Start 0 ∷ command.Take ∷ command.Give ∷ command.Take ∷ command.Give ∷ command.Take
    ∷ command.Cancel 0 ∷ command.Give ∷ []

composed_ends : Ends 40 composed (viewed ++ Look 1 0 false ∷ Deliver 1 0 Stored ∷ Look 1 1 false ∷ Deliver 1 1 Stored
    ∷ Compose 1 ∷ Cancel 1 ∷ []) []
composed_ends = record { journal = refl; refused_are = refl; is_through = record { mode = refl; held = refl; commands = refl } }

-- ---- all plays that may stand behind a journal

-- by so many steps, whatever caller 0's acts are where one is planned
abbrev reach_by : (Play → List Entry → List Play) → List Entry → Play → List Play
reach_by go [] a = a ∷ []
reach_by go (e ∷ es) a =
    if e.caller == 0 then (if is_some (planned a) then go (next e.act a) es else []) else go (passed e a) es

abbrev reach : ℕ → Play → List Entry → List Play
reach zero a es = []
reach (suc n) a es = option_map_or (λ b. reach n b es) (silent a) [] ++ reach_by (reach n) es a

any_front : (test : Play → Bool) (xs ys : List Play) → list_any test xs ≡ true → list_any test (xs ++ ys) ≡ true
any_front test [] ys h = absurd (false≢true h)
any_front test (x ∷ xs) ys h = by_first (test x) (list_any test xs) (list_any test (xs ++ ys)) h (any_front test xs ys)
  where
    by_first : (a b c : Bool) → (a || b) ≡ true → (b ≡ true → c ≡ true) → (a || c) ≡ true
    by_first true b c h f = refl
    by_first false b c h f = f h

any_behind : (test : Play → Bool) (xs ys : List Play) → list_any test ys ≡ true → list_any test (xs ++ ys) ≡ true
any_behind test [] ys h = h
any_behind test (x ∷ xs) ys h = ap (λ (b : Bool). test x || b) (any_behind test xs ys h) ∙ or_true (test x)
  where
    or_true : (b : Bool) → (b || true) ≡ true
    or_true true = refl
    or_true false = refl

abbrev Reaches : (Play → Bool) → Play → List Entry → Type 0
Reaches test a es = (n : ℕ) × ((m : ℕ) → n ≤ m → list_any test (reach m a es) ≡ true)

reaches_silent : (test : Play → Bool) (a b : Play) (es : List Entry) → silent a ≡ Some b → Reaches test b es → Reaches test a es
reaches_silent test a b es h r = (suc r.0, λ m l. one m l)
  where
    one : (m : ℕ) → suc r.0 ≤ m → list_any test (reach m a es) ≡ true
    one zero l = absurd (omega (arith, l))
    one (suc m) l =
        any_front test (option_map_or (λ b. reach m b es) (silent a) []) (reach_by (reach m) es a)
        (ap (λ (o : Option Play). list_any test (option_map_or (λ b. reach m b es) o [])) h ∙ r.1 m (omega (arith, l)))

reaches_own : (test : Play → Bool) (a : Play) (d : Act) (es : List Entry) → planned a ≡ Some d → Reaches test (next d a) es → Reaches test a (entry_by 0 d ∷ es)
reaches_own test a d es h r = (suc r.0, λ m l. one m l)
  where
    one : (m : ℕ) → suc r.0 ≤ m → list_any test (reach m a (entry_by 0 d ∷ es)) ≡ true
    one zero l = absurd (omega (arith, l))
    one (suc m) l =
        any_behind test (option_map_or (λ b. reach m b (entry_by 0 d ∷ es)) (silent a) []) (reach_by (reach m) (entry_by 0 d ∷ es) a)
        (ap (λ (x : Bool). list_any test (if x then reach m (next d a) es else [])) (ap is_some h) ∙ r.1 m (omega (arith, l)))

reaches_other : (test : Play → Bool) (a : Play) (e : Entry) (es : List Entry) → 1 ≤ e.caller → Reaches test (passed e a) es → Reaches test a (e ∷ es)
reaches_other test a e es low r = (suc r.0, λ m l. one m l)
  where
    not_zero : (n : ℕ) → 1 ≤ n → (n == 0) ≡ false
    not_zero n low = grind (arith, nat_tests)

    one : (m : ℕ) → suc r.0 ≤ m → list_any test (reach m a (e ∷ es)) ≡ true
    one zero l = absurd (omega (arith, l))
    one (suc m) l =
        any_behind test (option_map_or (λ b. reach m b (e ∷ es)) (silent a) []) (reach_by (reach m) (e ∷ es) a)
        (ap (λ (x : Bool). list_any test (if x then (if is_some (planned a) then reach m (next e.act a) es else []) else reach m (passed e a) es)) (not_zero e.caller low) ∙ r.1 m (omega (arith, l)))

reaches_end : (test : Play → Bool) (a : Play) → test a ≡ true → Reaches test a []
reaches_end test a h = (1, λ m l. one m l)
  where
    one : (m : ℕ) → 1 ≤ m → list_any test (reach m a []) ≡ true
    one zero l = absurd (omega (arith, l))
    one (suc m) l =
        any_behind test (option_map_or (λ b. reach m b []) (silent a) []) (a ∷ []) (ap (λ (b : Bool). b || false) h)

second_true : (x y : Bool) → (x && y) ≡ true → y ≡ true
second_true true y h = h
second_true false y h = absurd (false≢true h)

-- what passes a test behind a play stands among them
reaches : {n : ℕ} {a c : Play} {es : List Entry} (test : Play → Bool) → Plays n a es c → HasMemory es → test c ≡ true → Reaches test a es
reaches test (stops a) m t = reaches_end test a t
reaches test (quiet a b c es h r) m t = reaches_silent test a b es h (reaches test r m t)
reaches test (enters a c d es h r) m t = reaches_own test a d es h (reaches test r (second_true _ _ m) t)
reaches test (failed a c j es h r) m t = absurd (false≢true m)
reaches test (passes a c e es low high is r) m t = reaches_other test a e es low (reaches test r (second_true _ _ m) t)

abbrev four : ℕ → ℕ
four n = suc (suc (suc (suc n)))

abbrev sixteen : ℕ → ℕ
sixteen n = four (four (four (four n)))

-- a session is through, with these refused commands
abbrev is_closed : Mode → Bool
is_closed Closes = true
is_closed _ = false

abbrev is_empty : {A : Type 0} → List A → Bool
is_empty [] = true
is_empty (x ∷ xs) = false

abbrev is_through : Play → Bool
is_through a = is_closed a.mode && (is_empty a.held && is_empty a.commands)

abbrev one_refused : ℕ → ℕ → List Refused → Bool
one_refused line seen (r ∷ []) = r.line == line && r.seen == seen
one_refused line seen _ = false

through_passes : (a : Play) → IsThrough a → is_through a ≡ true
through_passes a t =
    (λ i. is_closed (t.mode i) && (is_empty (t.held i) && is_empty (t.commands i)))

-- ---- a `wait` that other callers' work ends

-- two workers do the job while caller 0 waits
abbrev done_by_others : List Entry
done_by_others =
    entry_by 1 (Look 1 0 false) ∷ entry_by 2 (Look 1 1 false) ∷ entry_by 1 (Deliver 1 0 Stored)
    ∷ entry_by 2 (Deliver 1 1 Stored) ∷ entry_by 1 (Compose 1) ∷ entry_by 1 (Finish 1) ∷ []

abbrev waited_for : List Entry
waited_for = entry_by 0 (View 0 (view_from 0)) ∷ entry_by 0 (Start 0 1) ∷ done_by_others

-- a save isn't refused by what was seen before the end of the job
refused_before_end : Follows two_layers views (lines_from 1 once) 2 waited_for (refused_at 3 2 reason.Nothing ∷ []) → ⊥
refused_before_end f =
    let r = reaches (λ (a : Play). is_through a && one_refused 3 2 a.refused) f.plays refl
    (ap (λ (b : Bool). b && one_refused 3 2 f.last.refused) (through_passes f.last f.is_through) ∙ ap (one_refused 3 2) f.refused_are) in
    false≢true (r.1 (sixteen r.0) (omega arith))

-- nor is a `wait` gone past by an edit
abbrev edited : List Command
edited = command.Start 0 ∷ command.Wait 0 ∷ command.Edit (SetOpacity 2 128) ∷ []

abbrev edited_early : List Entry
edited_early = entry_by 0 (View 0 (view_from 0)) ∷ entry_by 0 (Start 0 1) ∷ entry_by 0 (accepted (SetOpacity 2 128)) ∷ done_by_others

edit_before_end : (p : List Refused) → Follows two_layers views (lines_from 1 edited) 2 edited_early p → ⊥
unfolding verdict is_over most_edits
edit_before_end p f =
    let r = reaches is_through f.plays refl (through_passes f.last f.is_through) in
    false≢true (r.1 (sixteen r.0) (omega arith))
