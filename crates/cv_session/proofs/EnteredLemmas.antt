-- What may be entered is what is planned, where it is allowed.
use Rattle.std.proofs.Common.{◌≡◌, refl, ap, sym, ◌∙◌, subst, ◌≤◌, ◌<◌, ℕ, suc, ◌==◌, nat_lt, nat_le, Bool, true, false, if◌then◌else◌}
use Rattle.std.proofs.Common.{List, [], ◌∷◌, length, slice_get, Option, Some, None, is_some, option_map, option_and_then, arith, Result, Ok, Err, IsSome, IsSomeAnd}
use Rattle.std.specs.Option.{option_map_or}
use Rattle.std.proofs.lemmas.Bool.{false≢true, true≢false}
use Rattle.std.proofs.lemmas.Bool.Decides.{nat_tests}
use Rattle.cv_model.specs.declared.edit.EditError.{EditError}
use Rattle.cv_model.specs.Views.{PixelGrid}
use Rattle.cv_model.specs.Edits.{verdict}
use Rattle.cv_geom.specs.declared.views.ViewError.{ViewError}
use Rattle.cv_geom.specs.declared.views.ViewError.TheVariants as view_error
use Rattle.cv_geom.specs.Views.{view_of, pan, zoom}
use Rattle.cv_event.specs.declared.entry.Act.{Act}
use Rattle.cv_event.specs.declared.entry.Act.TheVariants as act
use Rattle.cv_event.specs.declared.entry.Fate.{Fate}
use Rattle.cv_event.specs.declared.entry.How.{How}
use Rattle.cv_event.specs.declared.refused.Reason.TheVariants as reason
use Rattle.cv_event.specs.declared.slot.Slot.{Slot}
use Rattle.cv_event.specs.declared.slot.Standing.TheVariants.{Missed}
use Rattle.cv_event.specs.declared.slot.Task.{Task}
use Rattle.cv_event.specs.declared.slot.Task.TheVariants.{Look, Compose}
use Rattle.cv_event.specs.States.{Taken, Job, Canvas, State, job_in, view_on}
use Rattle.cv_event.specs.Legality.{OfJob, how, ready_bits, task, fate_of, Allows}
use Rattle.cv_script.specs.declared.script.Command.{Command}
use Rattle.cv_script.specs.declared.script.Command.TheVariants as command
use Rattle.cv_script.specs.declared.script.Numbered.{Numbered}
use Rattle.cv_session.specs.Responses.{Response, Does, Refuses, Gives, Waits, last_job, at_canvas, at_view, at_job, shows, starts, unless_ended, ready_of, claimed, saves, response, done_by, fate_at}
use Rattle.cv_session.specs.Plays.{Awaited, Mode, Opens, Begins, GivesOne, GivesAll, Works, Closes, Play, act_of}
use Rattle.cv_session.specs.Plays.{planned_next, planned_held, planned_work, planned_in}
use Rattle.cv_session.specs.Entered.{IsClaim, MayDo, IsViewed, MayAct, MayBegin, MayGive, MayWork, MayOpen, MayIn}
use Rattle.cv_session.specs.Laws.{AllowedIsPlanned, PlannedMayBe}
use Rattle.cv_session.proofs.PlayLemmas.{same_some}

-- ---- what is allowed and may be entered is planned

-- a claim of what is due
claim_planned : (s : State) (d : Act) → IsClaim d → Allows s 0 d → option_map (claimed s) (task s) ≡ Some d
claim_planned s (act.Look j at hit) m h = ap (option_map (claimed s)) h.0 ∙ ap (λ (x : Bool). Some (act.Look j at x)) (sym h.1)
claim_planned s (act.Compose j) m h = ap (option_map (claimed s)) h
claim_planned s (act.Edit e v) m h = absurd m
claim_planned s (act.View c view) m h = absurd m
claim_planned s (act.Start c j) m h = absurd m
claim_planned s (act.Deliver j at fate) m h = absurd m
claim_planned s (act.Finish j) m h = absurd m
claim_planned s (act.Fail j) m h = absurd m
claim_planned s (act.Cancel j) m h = absurd m
claim_planned s (act.Preview j ready) m h = absurd m
claim_planned s (act.Save c j) m h = absurd m

-- a delivery has the fate of its slot
fate_planned : (s : State) (j at : ℕ) (fate : Fate) → Allows s 0 (act.Deliver j at fate) → fate_at s j at ≡ Some fate
fate_planned s j at fate h = of_job (job_in s.jobs j) h
  where
    of_slot : (job : Job) (o : Option Slot) → IsSomeAnd o (λ slot. (slot.standing ≡ Missed 0) × (fate ≡ fate_of s job slot)) → option_map (fate_of s job) o ≡ Some fate
    of_slot job None h = absurd h
    of_slot job (Some slot) h = ap Some (sym h.1)

    of_job : (o : Option Job) → IsSomeAnd o (λ job. IsSomeAnd (slice_get job.slots at) (λ slot. (slot.standing ≡ Missed 0) × (fate ≡ fate_of s job slot)))
        → option_and_then (λ (job : Job). option_map (fate_of s job) (slice_get job.slots at)) o ≡ Some fate
    of_job None h = absurd h
    of_job (Some job) h = of_slot job (slice_get job.slots at) h

-- a job without end
live_how : (s : State) (j : ℕ) (P : Job → Type 0) → OfJob s j (λ job. (job.ended ≡ None) × P job) → how s j ≡ None
live_how s j P h = of_job (job_in s.jobs j) h
  where
    of_job : (o : Option Job) → IsSomeAnd o (λ job. (job.ended ≡ None) × P job) → option_and_then (λ (job : Job). job.ended) o ≡ None
    of_job None h = absurd h
    of_job (Some job) h = h.0

-- the responses of what is there
canvas_there : (s : State) (c : ℕ) (ask : Canvas → Response) (d : Act) (P : Canvas → Type 0) → IsSomeAnd (slice_get s.canvases c) P
    → ((k : Canvas) → P k → act_of (ask k) ≡ Some d) → act_of (at_canvas s c ask) ≡ Some d
canvas_there s c ask d P h g = by_option (slice_get s.canvases c) h
  where
    by_option : (o : Option Canvas) → IsSomeAnd o P → act_of (option_map_or ask o (Refuses reason.UnknownCanvas)) ≡ Some d
    by_option None h = absurd h
    by_option (Some k) h = g k h

view_there : (s : State) (c : ℕ) (ask : PixelGrid → Response) (d : Act) (P : PixelGrid → Type 0) → IsSomeAnd (view_on s c) P
    → ((v : PixelGrid) → P v → act_of (ask v) ≡ Some d) → act_of (at_view s c ask) ≡ Some d
view_there s c ask d P h g = by_canvas (slice_get s.canvases c) h
  where
    by_view : (o : Option PixelGrid) → IsSomeAnd o P → act_of (option_map_or ask o (Refuses reason.NoView)) ≡ Some d
    by_view None h = absurd h
    by_view (Some v) h = g v h

    by_canvas : (o : Option Canvas) → IsSomeAnd (option_and_then (λ (k : Canvas). k.view) o) P
        → act_of (option_map_or (λ (k : Canvas). option_map_or ask k.view (Refuses reason.NoView)) o (Refuses reason.UnknownCanvas)) ≡ Some d
    by_canvas None h = absurd h
    by_canvas (Some k) h = by_view k.view h

-- a canvas is there where a job is on it
job_there : (s : State) (c : ℕ) (ask : ℕ → Response) (d : Act) (P : ℕ → Type 0) → IsSome (slice_get s.canvases c) → IsSomeAnd (last_job s c) P
    → ((j : ℕ) → P j → act_of (ask j) ≡ Some d) → act_of (at_job s c ask) ≡ Some d
job_there s c ask d P there h g = by_canvas (slice_get s.canvases c) there
  where
    by_job : (o : Option ℕ) → IsSomeAnd o P → act_of (option_map_or ask o (Refuses reason.NoJob)) ≡ Some d
    by_job None h = absurd h
    by_job (Some j) h = g j h

    by_canvas : (o : Option Canvas) → IsSome o → act_of (option_map_or (λ (k : Canvas). option_map_or ask (last_job s c) (Refuses reason.NoJob)) o (Refuses reason.UnknownCanvas)) ≡ Some d
    by_canvas None h = absurd cc
    by_canvas (Some k) there = by_job (last_job s c) h

view_planned : (c : ℕ) (r : Result PixelGrid ViewError) (d : Act) → IsViewed c r d → act_of (shows c r) ≡ Some d
view_planned c (Ok view) d h = ap Some (sym h)
view_planned c (Err error) d h = absurd h

-- a job that is numbered
start_planned : (s : State) (c j : ℕ) → j ≡ suc (length s.jobs) → j ≤ 4294967295 → act_of (starts s c) ≡ Some (act.Start c j)
start_planned s c j e l = by_test _ (few (length s.jobs) j e l)
  where
    few : (n j : ℕ) → j ≡ suc n → j ≤ 4294967295 → nat_lt n 4294967295 ≡ true
    few n j e l = grind (arith, nat_tests)

    by_test : (x : Bool) → x ≡ true → act_of (if x then Does (act.Start c (suc (length s.jobs))) else Refuses reason.TooManyJobs) ≡ Some (act.Start c j)
    by_test true h = ap (λ (n : ℕ). Some (act.Start c n)) (sym e)
    by_test false h = absurd (false≢true h)

unless_planned : (o : Option How) (d : Act) → o ≡ None → act_of (unless_ended o d) ≡ Some d
unless_planned None d h = refl
unless_planned (Some x) d h = absurd cc

take_planned : (s : State) (held : ℕ) (d : Act) → held < 64 → option_map (claimed s) (task s) ≡ Some d → act_of (response s held command.Take) ≡ Some d
take_planned s held d l h = by_test _ (few held l)
  where
    few : (n : ℕ) → n < 64 → nat_le 64 n ≡ false
    few n l = grind (arith, nat_tests)

    by_task : (o : Option Task) → option_map (claimed s) o ≡ Some d → act_of (option_map_or (λ t. Does (claimed s t)) o (Refuses reason.Nothing)) ≡ Some d
    by_task None h = absurd cc
    by_task (Some t) h = h

    by_test : (x : Bool) → x ≡ false → act_of (if x then Refuses reason.HeldFull else option_map_or (λ t. Does (claimed s t)) (task s) (Refuses reason.Nothing)) ≡ Some d
    by_test true h = absurd (true≢false h)
    by_test false e = by_task (task s) h

ready_planned : (s : State) (j bits : ℕ) → OfJob s j (λ job. (job.ended ≡ None) × (bits ≡ ready_bits job.slots)) → bits ≡ ready_of s j
ready_planned s j bits h = of_job (job_in s.jobs j) h
  where
    of_job : (o : Option Job) → IsSomeAnd o (λ job. (job.ended ≡ None) × (bits ≡ ready_bits job.slots))
        → bits ≡ option_map_or (λ (job : Job). ready_bits job.slots) o 0
    of_job None h = absurd h
    of_job (Some job) h = h.1

ended_planned : (s : State) (j : ℕ) → OfJob s j (λ job. job.ended ≡ None) → how s j ≡ None
ended_planned s j h = of_job (job_in s.jobs j) h
  where
    of_job : (o : Option Job) → IsSomeAnd o (λ job. job.ended ≡ None) → option_and_then (λ (job : Job). job.ended) o ≡ None
    of_job None h = absurd h
    of_job (Some job) h = h

save_planned : (s : State) (c j held : ℕ) (file : List ℕ) → Allows s 0 (act.Save c j) → act_of (response s held (command.Save c file)) ≡ Some (act.Save c j)
save_planned s c j held file h =
    canvas_there s c _ _ (λ k. IsSomeAnd k.published (λ taken. taken.job ≡ j)) h (λ k g. of_taken k.published g)
  where
    of_taken : (o : Option Taken) → IsSomeAnd o (λ taken. taken.job ≡ j) → act_of (option_map_or (saves c) o (Refuses reason.Nothing)) ≡ Some (act.Save c j)
    of_taken None h = absurd h
    of_taken (Some t) h = ap (λ (n : ℕ). Some (act.Save c n)) h

-- the command's own act, where it is allowed
pub act_planned : (s : State) (held : ℕ) (c : Command) (d : Act) → MayAct s held c d → Allows s 0 d → act_of (response s held c) ≡ Some d
act_planned s held (command.Edit e) d m h =
    let is : m.0 ≡ verdict s.project s.accepted e = subst (Allows s 0) m.1 h in
    ap (λ (v : Option EditError). Some (act.Edit e v)) (sym is) ∙ ap Some (sym m.1)
act_planned s held (command.View c e) d m h =
    canvas_there s c _ d (λ k. IsViewed c (view_of e k.spec.w k.spec.h) d) m (λ k g. view_planned c _ d g)
act_planned s held (command.Pan c dx dy) d m h = view_there s c _ d (λ v. IsViewed c (pan v dx dy) d) m (λ v g. view_planned c _ d g)
act_planned s held (command.Zoom c num den) d m h = view_there s c _ d (λ v. IsViewed c (zoom v num den) d) m (λ v g. view_planned c _ d g)
act_planned s held (command.Start c) d m h =
    let is : IsSome (view_on s c) × (m.0 ≡ suc (length s.jobs)) × (m.0 ≤ 4294967295) = subst (Allows s 0) m.1 h in
    view_there s c _ d (λ v. Unit {0}) (some_view (view_on s c) is.0) (λ v g. start_planned s c m.0 is.1 is.2 ∙ ap Some (sym m.1))
  where
    some_view : (o : Option PixelGrid) → IsSome o → IsSomeAnd o (λ v. Unit {0})
    some_view None h = absurd cc
    some_view (Some v) h = tt
act_planned s held (command.Cancel c) d m h =
    job_there s c _ d (λ j. d ≡ act.Cancel j) m.0 m.1
    (λ j g. unless_planned (how s j) (act.Cancel j) (ended_planned s j (subst (Allows s 0) g h)) ∙ ap Some (sym g))
act_planned s held (command.Preview c file) d m h =
    job_there s c _ d (λ j. (ready : ℕ) × (d ≡ act.Preview j ready)) m.0 m.1 (λ j g. shown j g.0 g.1 (subst (Allows s 0) g.1 h))
  where
    shown : (j ready : ℕ) → d ≡ act.Preview j ready → Allows s 0 (act.Preview j ready) → act_of (unless_ended (how s j) (act.Preview j (ready_of s j))) ≡ Some d
    shown j ready e h =
        unless_planned (how s j) _ (live_how s j _ h) ∙ ap (λ (n : ℕ). Some (act.Preview j n)) (sym (ready_planned s j ready h)) ∙ ap Some (sym e)
act_planned s held (command.Save c file) d m h = save_planned s c m.0 held file (subst (Allows s 0) m.1 h) ∙ ap Some (sym m.1)
act_planned s held command.Take d m h = take_planned s held d m.0 (claim_planned s d m.1 h)
act_planned s held (command.Wait c) d m h = absurd m
act_planned s held command.Give d m h = absurd m

done_planned : (s : State) (t : Task) (d : Act) → MayDo t d → Allows s 0 d → done_by s t ≡ Some d
done_planned s (Look j at) d m h =
    ap (option_map (act.Deliver j at)) (fate_planned s j at m.0 (subst (Allows s 0) m.1 h)) ∙ ap Some (sym m.1)
done_planned s (Compose j) d m h = by_end (is_some (how s j)) (ap is_some (live s j (subst (Allows s 0) m h))) ∙ ap Some (sym m)
  where
    live : (s : State) (j : ℕ) → Allows s 0 (act.Finish j) → how s j ≡ None
    live s j h = of_job (job_in s.jobs j) h
      where
        of_job : (o : Option Job) → IsSomeAnd o (λ job. (job.composer ≡ Some 0) × (job.ended ≡ None)) → option_and_then (λ (job : Job). job.ended) o ≡ None
        of_job None h = absurd h
        of_job (Some job) h = h.1

    by_end : (x : Bool) → x ≡ false → (if x then None else Some (act.Finish j)) ≡ Some (act.Finish j)
    by_end true h = absurd (true≢false h)
    by_end false h = refl

begin_planned : (cs : List Numbered) (a : Play) (d : Act) → MayBegin cs a d → Allows a.state 0 d → planned_next cs a ≡ Some d
begin_planned [] a d m h = absurd m
begin_planned (n ∷ rest) a d m h = act_planned a.state (length a.held) n.command d m h

give_planned : (ts : List Task) (a : Play) (d : Act) → MayGive ts d → Allows a.state 0 d → planned_held ts a ≡ Some d
give_planned [] a d m h = absurd m
give_planned (t ∷ ts) a d m h = done_planned a.state t d m h

work_planned : (w : Awaited) (ts : List Task) (a : Play) (d : Act) → MayWork w ts a d → Allows a.state 0 d → planned_work w ts a ≡ Some d
work_planned w [] a d m h =
    ap (λ (o : Option How). if is_some o then None else option_map (claimed a.state) (task a.state)) m.0 ∙ claim_planned a.state d m.1 h
work_planned w (t ∷ ts) a d m h = done_planned a.state t d m h

open_planned : (c : ℕ) (views : List (Option PixelGrid)) (a : Play) (d : Act) → MayOpen c views d → planned_in (Opens c views) a ≡ Some d
open_planned c [] a d m = absurd m
open_planned c (None ∷ views) a d m = absurd m
open_planned c (Some view ∷ views) a d m = ap Some (sym m)

in_planned : (m : Mode) (a : Play) (d : Act) → MayIn m a d → Allows a.state 0 d → planned_in m a ≡ Some d
in_planned (Opens c views) a d m h = open_planned c views a d m
in_planned Begins a d m h = begin_planned a.commands a d m h
in_planned GivesOne a d m h = give_planned a.held a d m h
in_planned (GivesAll w) a d m h = give_planned a.held a d m h
in_planned (Works w) a d m h = work_planned w a.held a d m h
in_planned Closes a d m h = give_planned a.held a d m h

pub allowed_is_planned : AllowedIsPlanned
allowed_is_planned a d m h = in_planned a.mode a d m h

-- ---- what is planned may be entered

claim_may : (s : State) (t : Task) → IsClaim (claimed s t)
claim_may s (Look j at) = tt
claim_may s (Compose j) = tt

by_canvas_may : (s : State) (c : ℕ) (ask : Canvas → Response) (d : Act) (P : Canvas → Type 0) → act_of (at_canvas s c ask) ≡ Some d
    → ((k : Canvas) → act_of (ask k) ≡ Some d → P k) → IsSomeAnd (slice_get s.canvases c) P
by_canvas_may s c ask d P h g = by_option (slice_get s.canvases c) h
  where
    by_option : (o : Option Canvas) → act_of (option_map_or ask o (Refuses reason.UnknownCanvas)) ≡ Some d → IsSomeAnd o P
    by_option None h = absurd cc
    by_option (Some k) h = g k h

by_view_may : (s : State) (c : ℕ) (ask : PixelGrid → Response) (d : Act) (P : PixelGrid → Type 0) → act_of (at_view s c ask) ≡ Some d
    → ((v : PixelGrid) → act_of (ask v) ≡ Some d → P v) → IsSomeAnd (view_on s c) P
by_view_may s c ask d P h g = by_canvas (slice_get s.canvases c) h
  where
    by_view : (o : Option PixelGrid) → act_of (option_map_or ask o (Refuses reason.NoView)) ≡ Some d → IsSomeAnd o P
    by_view None h = absurd cc
    by_view (Some v) h = g v h

    by_canvas : (o : Option Canvas) → act_of (option_map_or (λ (k : Canvas). option_map_or ask k.view (Refuses reason.NoView)) o (Refuses reason.UnknownCanvas)) ≡ Some d
        → IsSomeAnd (option_and_then (λ (k : Canvas). k.view) o) P
    by_canvas None h = absurd cc
    by_canvas (Some k) h = by_view k.view h

by_job_may : (s : State) (c : ℕ) (ask : ℕ → Response) (d : Act) (P : ℕ → Type 0) → act_of (at_job s c ask) ≡ Some d
    → ((j : ℕ) → act_of (ask j) ≡ Some d → P j) → IsSome (slice_get s.canvases c) × IsSomeAnd (last_job s c) P
by_job_may s c ask d P h g = by_canvas (slice_get s.canvases c) h
  where
    by_job : (o : Option ℕ) → act_of (option_map_or ask o (Refuses reason.NoJob)) ≡ Some d → IsSomeAnd o P
    by_job None h = absurd cc
    by_job (Some j) h = g j h

    by_canvas : (o : Option Canvas) → act_of (option_map_or (λ (k : Canvas). option_map_or ask (last_job s c) (Refuses reason.NoJob)) o (Refuses reason.UnknownCanvas)) ≡ Some d
        → IsSome o × IsSomeAnd (last_job s c) P
    by_canvas None h = absurd cc
    by_canvas (Some k) h = (refl, by_job (last_job s c) h)

view_may : (c : ℕ) (r : Result PixelGrid ViewError) (d : Act) → act_of (shows c r) ≡ Some d → IsViewed c r d
view_may c (Ok view) d h = sym (same_some h)
view_may c (Err view_error.Size) d h = absurd cc
view_may c (Err view_error.Empty) d h = absurd cc
view_may c (Err view_error.Range) d h = absurd cc

unless_may : (o : Option How) (e d : Act) → act_of (unless_ended o e) ≡ Some d → d ≡ e
unless_may None e d h = sym (same_some h)
unless_may (Some x) e d h = absurd cc

pub act_may : (s : State) (held : ℕ) (c : Command) (d : Act) → act_of (response s held c) ≡ Some d → MayAct s held c d
act_may s held (command.Edit e) d h = (verdict s.project s.accepted e, sym (same_some h))
act_may s held (command.View c e) d h = by_canvas_may s c _ d _ h (λ k g. view_may c _ d g)
act_may s held (command.Pan c dx dy) d h = by_view_may s c _ d _ h (λ v g. view_may c _ d g)
act_may s held (command.Zoom c num den) d h = by_view_may s c _ d _ h (λ v g. view_may c _ d g)
act_may s held (command.Start c) d h = started (view_on s c) (by_view_may s c _ d (λ v. (j : ℕ) × (d ≡ act.Start c j)) h (λ v g. by_test (nat_lt (length s.jobs) 4294967295) g))
  where
    started : (o : Option PixelGrid) → IsSomeAnd o (λ v. (j : ℕ) × (d ≡ act.Start c j)) → (j : ℕ) × (d ≡ act.Start c j)
    started None h = absurd h
    started (Some v) h = h

    by_test : (x : Bool) → act_of (if x then Does (act.Start c (suc (length s.jobs))) else Refuses reason.TooManyJobs) ≡ Some d → (j : ℕ) × (d ≡ act.Start c j)
    by_test true h = (suc (length s.jobs), sym (same_some h))
    by_test false h = absurd cc
act_may s held (command.Cancel c) d h = by_job_may s c _ d _ h (λ j g. unless_may (how s j) (act.Cancel j) d g)
act_may s held (command.Preview c file) d h = by_job_may s c _ d _ h (λ j g. (ready_of s j, unless_may (how s j) _ d g))
act_may s held (command.Save c file) d h = saved (slice_get s.canvases c) h
  where
    of_taken : (o : Option Taken) → act_of (option_map_or (saves c) o (Refuses reason.Nothing)) ≡ Some d → (j : ℕ) × (d ≡ act.Save c j)
    of_taken None h = absurd cc
    of_taken (Some t) h = (t.job, sym (same_some h))

    saved : (o : Option Canvas) → act_of (option_map_or (λ (k : Canvas). option_map_or (saves c) k.published (Refuses reason.Nothing)) o (Refuses reason.UnknownCanvas)) ≡ Some d
        → (j : ℕ) × (d ≡ act.Save c j)
    saved None h = absurd cc
    saved (Some k) h = of_taken k.published h
act_may s held command.Take d h = by_test (nat_le 64 held) refl h
  where
    few : (n : ℕ) → nat_le 64 n ≡ false → n < 64
    few n l = grind (arith, nat_tests)

    by_task : (o : Option Task) → act_of (option_map_or (λ t. Does (claimed s t)) o (Refuses reason.Nothing)) ≡ Some d → IsClaim d
    by_task None h = absurd cc
    by_task (Some t) h = subst IsClaim (same_some h) (claim_may s t)

    by_test : (x : Bool) → nat_le 64 held ≡ x → act_of (if x then Refuses reason.HeldFull else option_map_or (λ t. Does (claimed s t)) (task s) (Refuses reason.Nothing)) ≡ Some d
        → (held < 64) × IsClaim d
    by_test true e h = absurd cc
    by_test false e h = (few held e, by_task (task s) h)
act_may s held (command.Wait c) d h = waited (slice_get s.canvases c) h
  where
    of_job : (o : Option ℕ) → act_of (option_map_or Waits o (Refuses reason.NoJob)) ≡ Some d → ⊥
    of_job None h = absurd cc
    of_job (Some j) h = absurd cc

    waited : (o : Option Canvas) → act_of (option_map_or (λ (k : Canvas). option_map_or Waits (last_job s c) (Refuses reason.NoJob)) o (Refuses reason.UnknownCanvas)) ≡ Some d → ⊥
    waited None h = absurd cc
    waited (Some k) h = of_job (last_job s c) h
act_may s held command.Give d h = by_test (held == 0) h
  where
    by_test : (x : Bool) → act_of (if x then Refuses reason.NothingHeld else Gives) ≡ Some d → ⊥
    by_test true h = absurd cc
    by_test false h = absurd cc

pub done_may : (s : State) (t : Task) (d : Act) → done_by s t ≡ Some d → MayDo t d
done_may s (Look j at) d h = of_fate (fate_at s j at) h
  where
    of_fate : (o : Option Fate) → option_map (act.Deliver j at) o ≡ Some d → (fate : Fate) × (d ≡ act.Deliver j at fate)
    of_fate None h = absurd cc
    of_fate (Some fate) h = (fate, sym (same_some h))
done_may s (Compose j) d h = by_end (is_some (how s j)) h
  where
    by_end : (x : Bool) → (if x then None else Some (act.Finish j)) ≡ Some d → d ≡ act.Finish j
    by_end true h = absurd cc
    by_end false h = sym (same_some h)

begin_may : (cs : List Numbered) (a : Play) (d : Act) → planned_next cs a ≡ Some d → MayBegin cs a d
begin_may [] a d h = absurd cc
begin_may (n ∷ rest) a d h = act_may a.state (length a.held) n.command d h

give_may : (ts : List Task) (a : Play) (d : Act) → planned_held ts a ≡ Some d → MayGive ts d
give_may [] a d h = absurd cc
give_may (t ∷ ts) a d h = done_may a.state t d h

pub work_may : (w : Awaited) (ts : List Task) (a : Play) (d : Act) → planned_work w ts a ≡ Some d → MayWork w ts a d
work_may w [] a d h = by_end (how a.known w.job) refl h
  where
    by_task : (o : Option Task) → option_map (claimed a.state) o ≡ Some d → IsClaim d
    by_task None h = absurd cc
    by_task (Some t) h = subst IsClaim (same_some h) (claim_may a.state t)

    by_end : (o : Option How) → how a.known w.job ≡ o → (if is_some o then None else option_map (claimed a.state) (task a.state)) ≡ Some d
        → (how a.known w.job ≡ None) × IsClaim d
    by_end None e h = (e, by_task (task a.state) h)
    by_end (Some x) e h = absurd cc
work_may w (t ∷ ts) a d h = done_may a.state t d h

open_may : (c : ℕ) (views : List (Option PixelGrid)) (a : Play) (d : Act) → planned_in (Opens c views) a ≡ Some d → MayOpen c views d
open_may c [] a d h = absurd cc
open_may c (None ∷ views) a d h = absurd cc
open_may c (Some view ∷ views) a d h = sym (same_some h)

in_may : (m : Mode) (a : Play) (d : Act) → planned_in m a ≡ Some d → MayIn m a d
in_may (Opens c views) a d h = open_may c views a d h
in_may Begins a d h = begin_may a.commands a d h
in_may GivesOne a d h = give_may a.held a d h
in_may (GivesAll w) a d h = give_may a.held a d h
in_may (Works w) a d h = work_may w a.held a d h
in_may Closes a d h = give_may a.held a d h

pub planned_may_be : PlannedMayBe
planned_may_be a d h = in_may a.mode a d h
