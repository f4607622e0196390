-- Worked scripts: the journal that follows each, its refused commands and its files, by computing them, and
-- what doesn't follow it.
use Rattle.std.proofs.Common.{◌≡◌, refl, sym, ◌∙◌, ap, arith, ℕ, suc, pos, false, List, [], ◌∷◌, ◌++◌, map, codes, Option, Some}
use Rattle.cv_model.specs.declared.edit.Edit.TheVariants.{RemoveFeature, SetOpacity}
use Rattle.cv_model.specs.declared.edit.EditError.TheVariants.{UnknownLayer}
use Rattle.cv_model.specs.Views.{PixelGrid}
use Rattle.cv_model.specs.Edits.{verdict, is_over, most_edits}
use Rattle.cv_event.specs.declared.entry.Act.{Act}
use Rattle.cv_event.specs.declared.entry.Act.TheVariants.{View, Start, Look, Deliver, Compose, Finish, Cancel, Preview, Save}
use Rattle.cv_event.specs.declared.entry.Act.TheVariants as act
use Rattle.cv_event.specs.declared.entry.Entry.{Entry}
use Rattle.cv_event.specs.declared.entry.Fate.TheVariants.{Stored, Kept, Dropped}
use Rattle.cv_event.specs.declared.refused.Reason.{Reason}
use Rattle.cv_event.specs.declared.refused.Reason.TheVariants as reason
use Rattle.cv_event.specs.declared.refused.Refused.{Refused}
use Rattle.cv_event.proofs.WorkedJournals.{two_layers, view_from, own, viewed, finished, again, accepted}
use Rattle.cv_script.specs.declared.script.Command.{Command}
use Rattle.cv_script.specs.declared.script.Command.TheVariants as command
use Rattle.cv_script.specs.declared.script.Numbered.{Numbered}
use Rattle.cv_session.specs.Plays.{Play, Written, stops, quiet, own as enters, other as passes, entry_by}
use Rattle.cv_session.specs.Follows.{at_first, IsThrough, Follows}
use Rattle.cv_session.specs.Writes.{writes}
use Rattle.cv_session.specs.Laws.{HasMemory}
use Rattle.cv_session.proofs.OneLemmas.{alone, behind, follows_alone, one_journal_follows}

-- ---- scripts of two layers

-- commands in lines of their own, from this one on
abbrev pub lines_from : ℕ → List Command → List Numbered
lines_from n [] = []
lines_from n (c ∷ cs) = record { line = n; command = c } ∷ lines_from (suc n) cs

-- the canvas has a view
abbrev pub views : List (Option PixelGrid)
views = Some (view_from 0) ∷ []

-- the play of commands on the one canvas of two layers
abbrev pub played : List Command → Play
played commands = at_first two_layers views (lines_from 1 commands)

-- it comes to its end with this journal and these refused commands
pub record Ends (n : ℕ) (commands : List Command) (acts : List Act) (refused : List Refused) : Type 0 where
  pub journal : alone n (played commands) ≡ own acts
  pub refused_are : (behind n (played commands)).refused ≡ refused
  pub is_through : IsThrough (behind n (played commands))

-- so no other journal follows the commands, and with no other refused commands, where memory suffices
abbrev pub Follow : List Command → List Act → List Refused → Type 0
Follow commands acts refused = Follows two_layers views (lines_from 1 commands) 0 (own acts) refused

own_acts : (acts : List Act) → map (λ (e : Entry). e.act) (own acts) ≡ acts
own_acts [] = refl
own_acts (a ∷ acts) = ap (λ (rest : List Act). a ∷ rest) (own_acts acts)

only : (n : ℕ) (commands : List Command) (acts instead : List Act) (refused others : List Refused) → Ends n commands acts refused
    → HasMemory (own acts) → HasMemory (own instead) → Follow commands instead others → (instead ≡ acts) × (others ≡ refused)
only n commands acts instead refused others e m k f =
    let g = follows_alone two_layers views (lines_from 1 commands) n e.is_through in
    let one = one_journal_follows two_layers views (lines_from 1 commands) (own instead) _ others _ k (rw e.journal m) f g in
    (sym (own_acts instead) ∙ ap (map (λ (e : Entry). e.act)) (one.0 ∙ e.journal) ∙ own_acts acts, one.1 ∙ e.refused_are)

abbrev pub name_of : Written → List ℕ
name_of w = w.name

abbrev pub refused_at : ℕ → ℕ → Reason → Refused
refused_at line seen why = record { line = line; seen = seen; reason = why }

-- ---- two jobs of one view

abbrev pub once : List Command
once = command.Start 0 ∷ command.Wait 0 ∷ command.Save 0 (codes "a.ppm") ∷ []

abbrev twice : List Command
twice = once ++ command.Start 0 ∷ command.Wait 0 ∷ command.Save 0 (codes "b.ppm") ∷ []

once_ends : Ends 30 once (finished ++ Save 0 1 ∷ []) []
once_ends = record { journal = refl; refused_are = refl; is_through = record { mode = refl; held = refl; commands = refl } }

twice_ends : Ends 40 twice (finished ++ Save 0 1 ∷ again) []
twice_ends = record { journal = refl; refused_are = refl; is_through = record { mode = refl; held = refl; commands = refl } }

twice_files : map name_of (behind 40 (played twice)).written ≡ codes "a.ppm" ∷ codes "b.ppm" ∷ []
twice_files = refl

twice_writes : map name_of (writes two_layers (lines_from 1 twice) (own (finished ++ Save 0 1 ∷ again)) []) ≡ codes "a.ppm" ∷ codes "b.ppm" ∷ []
twice_writes = refl

-- a `wait` isn't passed before the job's end
past_wait : (p : List Refused) → Follow once viewed p → ⊥
past_wait p f = absurd (differ (only 30 once _ viewed [] p once_ends refl refl f).0)
  where
    differ : viewed ≡ finished ++ Save 0 1 ∷ [] → ⊥
    differ e = absurd cc

-- nor is a `save` refused by what was seen before it
before_wait : Follow once finished (refused_at 3 2 reason.Nothing ∷ []) → ⊥
before_wait f = absurd (differ (only 30 once _ finished [] _ once_ends refl refl f).0)
  where
    differ : finished ≡ finished ++ Save 0 1 ∷ [] → ⊥
    differ e = absurd cc

-- ---- an edit while a job runs

abbrev emptied : List Command
emptied = command.Start 0 ∷ command.Edit (RemoveFeature 3 1) ∷ command.Wait 0 ∷ []

abbrev emptied_acts : List Act
emptied_acts = viewed ++ accepted (RemoveFeature 3 1) ∷ Look 1 0 false ∷ Deliver 1 0 Kept ∷ Look 1 1 false
    ∷ Deliver 1 1 Stored ∷ Compose 1 ∷ Finish 1 ∷ []

emptied_ends : Ends 30 emptied emptied_acts []
unfolding verdict is_over most_edits
emptied_ends = record { journal = refl; refused_are = refl; is_through = record { mode = refl; held = refl; commands = refl } }

-- no edit is left out
edit_left_out : (p : List Refused) → Follow emptied finished p → ⊥
edit_left_out p f = absurd (differ (only 30 emptied _ finished [] p emptied_ends refl refl f).0)
  where
    differ : finished ≡ emptied_acts → ⊥
    differ e = absurd cc

-- ---- a refused edit

abbrev unknown : List Command
unknown = command.Start 0 ∷ command.Wait 0 ∷ command.Edit (SetOpacity 9 10) ∷ command.Save 0 (codes "a.ppm") ∷ []

abbrev unknown_acts : List Act
unknown_acts = finished ++ act.Edit (SetOpacity 9 10) (Some UnknownLayer) ∷ Save 0 1 ∷ []

unknown_ends : Ends 30 unknown unknown_acts (refused_at 3 9 reason.UnknownLayer ∷ [])
unfolding verdict is_over most_edits
unknown_ends = record { journal = refl; refused_are = refl; is_through = record { mode = refl; held = refl; commands = refl } }

-- its line has seen its own entry
seen_too_few : Follow unknown unknown_acts (refused_at 3 8 reason.UnknownLayer ∷ []) → ⊥
seen_too_few f = absurd (differ (only 30 unknown _ unknown_acts _ _ unknown_ends refl refl f).1)
  where
    numbers : ◌≡◌ {A = List ℕ} (8 ∷ []) (9 ∷ []) → ⊥
    numbers e = absurd cc

    differ : refused_at 3 8 reason.UnknownLayer ∷ [] ≡ refused_at 3 9 reason.UnknownLayer ∷ [] → ⊥
    differ e = numbers (ap (map (λ (r : Refused). r.seen)) e)

-- ---- tasks that are held

-- a job is cancelled before its piece is given
abbrev cancelled : List Command
cancelled = command.Start 0 ∷ command.Take ∷ command.Cancel 0 ∷ command.Give ∷ command.Save 0 (codes "d.ppm")
    ∷ command.Cancel 0 ∷ []

cancelled_ends : Ends 30 cancelled (viewed ++ Look 1 0 false ∷ Cancel 1 ∷ Deliver 1 0 Dropped ∷ [])
    (refused_at 5 5 reason.Nothing ∷ refused_at 6 5 reason.EndedCancelled ∷ [])
cancelled_ends = record { journal = refl; refused_are = refl; is_through = record { mode = refl; held = refl; commands = refl } }

-- a later job of the canvas ends the first one
abbrev superseded : List Command
superseded = command.Start 0 ∷ command.Take ∷ command.Start 0 ∷ command.Give ∷ command.Wait 0 ∷ []

superseded_ends : Ends 40 superseded (viewed ++ Look 1 0 false ∷ Start 0 2 ∷ Deliver 1 0 Dropped ∷ Look 2 0 false
    ∷ Deliver 2 0 Stored ∷ Look 2 1 false ∷ Deliver 2 1 Stored ∷ Compose 2 ∷ Finish 2 ∷ []) []
superseded_ends = record { journal = refl; refused_are = refl; is_through = record { mode = refl; held = refl; commands = refl } }

-- two tasks are given oldest first; those that are left are done behind the last command
abbrev held : List Command
held = command.Start 0 ∷ command.Take ∷ command.Take ∷ command.Take ∷ command.Give ∷ []

abbrev held_acts : List Act
held_acts = viewed ++ Look 1 0 false ∷ Look 1 1 false ∷ Deliver 1 0 Stored ∷ Deliver 1 1 Stored ∷ []

held_ends : Ends 30 held held_acts (refused_at 4 4 reason.Nothing ∷ [])
held_ends = record { journal = refl; refused_are = refl; is_through = record { mode = refl; held = refl; commands = refl } }

abbrev youngest : List Act
youngest = viewed ++ Look 1 0 false ∷ Look 1 1 false ∷ Deliver 1 1 Stored ∷ Deliver 1 0 Stored ∷ []

youngest_first : (p : List Refused) → Follow held youngest p → ⊥
youngest_first p f = absurd (differ (only 30 held held_acts youngest _ p held_ends refl refl f).0)
  where
    differ : viewed ++ Look 1 0 false ∷ Look 1 1 false ∷ Deliver 1 1 Stored ∷ Deliver 1 0 Stored ∷ [] ≡ held_acts → ⊥
    differ e = absurd cc

abbrev kept_back : List Act
kept_back = viewed ++ Look 1 0 false ∷ Look 1 1 false ∷ Deliver 1 0 Stored ∷ []

held_back : (p : List Refused) → Follow held kept_back p → ⊥
held_back p f = absurd (differ (only 30 held held_acts kept_back _ p held_ends refl refl f).0)
  where
    differ : viewed ++ Look 1 0 false ∷ Look 1 1 false ∷ Deliver 1 0 Stored ∷ [] ≡ held_acts → ⊥
    differ e = absurd cc

-- ---- previews

-- of the slot that is ready
abbrev previewed : List Command
previewed = command.Start 0 ∷ command.Take ∷ command.Give ∷ command.Preview 0 (codes "p.ppm") ∷ command.Wait 0 ∷ []

abbrev previewed_acts : ℕ → List Act
previewed_acts ready = viewed ++ Look 1 0 false ∷ Deliver 1 0 Stored ∷ Preview 1 ready ∷ Look 1 1 false
    ∷ Deliver 1 1 Stored ∷ Compose 1 ∷ Finish 1 ∷ []

previewed_ends : Ends 30 previewed (previewed_acts 1) []
previewed_ends = record { journal = refl; refused_are = refl; is_through = record { mode = refl; held = refl; commands = refl } }

preview_of_all : (p : List Refused) → Follow previewed (previewed_acts 3) p → ⊥
preview_of_all p f = absurd (differ (only 30 previewed _ (previewed_acts 3) _ p previewed_ends refl refl f).0)
  where
    differ : previewed_acts 3 ≡ previewed_acts 1 → ⊥
    differ e = absurd cc

-- ---- saves

-- a job that was started isn't saved
abbrev restarted : List Command
restarted = command.Start 0 ∷ command.Wait 0 ∷ command.Start 0 ∷ command.Save 0 (codes "a.ppm") ∷ []

restarted_ends : Ends 30 restarted (finished ++ Start 0 2 ∷ Save 0 1 ∷ []) []
restarted_ends = record { journal = refl; refused_are = refl; is_through = record { mode = refl; held = refl; commands = refl } }

saved_unfinished : (p : List Refused) → Follow restarted (finished ++ Start 0 2 ∷ Save 0 2 ∷ []) p → ⊥
saved_unfinished p f = absurd (differ (only 30 restarted _ (finished ++ Start 0 2 ∷ Save 0 2 ∷ []) _ p restarted_ends refl refl f).0)
  where
    differ : finished ++ Start 0 2 ∷ Save 0 2 ∷ [] ≡ finished ++ Start 0 2 ∷ Save 0 1 ∷ [] → ⊥
    differ e = absurd cc

-- ---- what can't be done

abbrev odd : List Command
odd = command.Give ∷ command.Wait 0 ∷ command.Start 1 ∷ command.Cancel 0 ∷ command.Pan 0 (pos 4096) (pos 0) ∷ command.Take ∷ []

odd_ends : Ends 30 odd (View 0 (view_from 0) ∷ View 0 (view_from 8192000000) ∷ [])
    (refused_at 1 1 reason.NothingHeld ∷ refused_at 2 1 reason.NoJob ∷ refused_at 3 1 reason.UnknownCanvas
    ∷ refused_at 4 1 reason.NoJob ∷ refused_at 6 2 reason.Nothing ∷ [])
odd_ends = record { journal = refl; refused_are = refl; is_through = record { mode = refl; held = refl; commands = refl } }

-- ---- other callers

-- two workers look at a piece each before one is delivered
abbrev shared : List Entry
shared =
    entry_by 0 (View 0 (view_from 0)) ∷ entry_by 0 (Start 0 1) ∷ entry_by 1 (Look 1 0 false)
    ∷ entry_by 2 (Look 1 1 false) ∷ entry_by 1 (Deliver 1 0 Stored) ∷ entry_by 2 (Deliver 1 1 Stored)
    ∷ entry_by 1 (Compose 1) ∷ entry_by 1 (Finish 1) ∷ entry_by 0 (Save 0 1) ∷ []

shared_follows : Follows two_layers views (lines_from 1 once) 2 shared []
shared_follows = record {
  last = _;
  plays = enters _ _ _ _ refl (quiet _ _ _ _ refl (enters _ _ _ _ refl (quiet _ _ _ _ refl (quiet _ _ _ _ refl
      (passes _ _ _ _ (omega arith) (omega arith) refl (passes _ _ _ _ (omega arith) (omega arith) refl
      (passes _ _ _ _ (omega arith) (omega arith) refl (passes _ _ _ _ (omega arith) (omega arith) refl
      (passes _ _ _ _ (omega arith) (omega arith) refl (passes _ _ _ _ (omega arith) (omega arith) refl
      (quiet _ _ _ _ refl (enters _ _ _ _ refl (quiet _ _ _ _ refl (stops _))))))))))))));
  is_through = record { mode = refl; held = refl; commands = refl };
  refused_are = refl;
}
