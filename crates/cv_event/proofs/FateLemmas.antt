-- What a look and a delivery get, in the words of the entries.
use Rattle.std.proofs.Common.{◌≡◌, ◌∙◌, sym, ap, refl, ℕ, ◌==◌, Bool, false, not, ◌&&◌, if◌then◌else◌, List, []}
use Rattle.std.proofs.Common.{Option, Some, None, is_some, slice_get, option_map, option_and_then, IsSomeAnd, subst, map}
use Rattle.std.specs.List.{list_any}
use Rattle.std.specs.Option.{option_map_or}
use Rattle.cv_model.specs.declared.project.CanvasSpec.{CanvasSpec}
use Rattle.cv_model.specs.Layers.{Opening, slots}
use Rattle.cv_event.specs.declared.entry.Entry.{Entry}
use Rattle.cv_event.specs.declared.entry.Fate.TheVariants.{Stored, Kept, Dropped}
use Rattle.cv_event.specs.declared.entry.How.{How}
use Rattle.cv_event.specs.declared.slot.Slot.{Slot}
use Rattle.cv_event.specs.States.{Job, Canvas, job_in, replay}
use Rattle.cv_event.specs.Legality.{is_image, is_fresh, hits_on, is_taken, on_canvas, IsLegal}
use Rattle.cv_event.specs.Histories.{first_end, cached}
use Rattle.cv_event.specs.Laws.{started_between}
use Rattle.cv_event.specs.JobLaws.{layer_id, shown_by}
use Rattle.cv_event.specs.HitLaws.{stays_fresh, HitsAreOfEdits, FateIsOfEdits}
use Rattle.cv_event.proofs.EndLemmas.{end_is_first}
use Rattle.cv_event.proofs.DueLemmas.{canvases_stay, slots_are_of_the_taken, fresh_is_of_edits}

-- a job of a start is on the start's canvas
on_start : (o : Opening) (past rest : List Entry) (who c j : ℕ) → IsLegal o (started_between past who c j rest)
    → (job : Job) → job_in (replay o (started_between past who c j rest)).jobs j ≡ Some job → job.canvas ≡ c
on_start o past rest who c j legal job there =
    let both = subst (λ o2. IsSomeAnd o2 (λ (job : Job). (job.canvas ≡ c) × (shown_by job ≡ map layer_id (slots
    job.project job.view)))) there (slots_are_of_the_taken o past rest who c j legal) in
    both.0

-- whether it is fresh
fresh_now : (o : Opening) (past rest : List Entry) (who c j at : ℕ) → IsLegal o (started_between past who c j rest)
    → (job : Job) (slot : Slot) → job_in (replay o (started_between past who c j rest)).jobs j ≡ Some job
    → slice_get job.slots at ≡ Some slot → job.ended ≡ None
    → on_canvas is_fresh (replay o (started_between past who c j rest)) job slot
    ≡ stays_fresh job.project job.view slot.layer c (started_between past who c j rest) rest
fresh_now o past rest who c j at legal job slot there is live =
    let s = replay o (started_between past who c j rest) in
    sym (ap (λ (o2 : Option Job). option_map_or (λ (job : Job). option_map_or (λ slot. on_canvas is_fresh s job slot)
    (slice_get job.slots at) false) o2 false) there
    ∙ ap (λ (o2 : Option Slot). option_map_or (λ slot. on_canvas is_fresh s job slot) o2 false) is)
    ∙ fresh_is_of_edits o past rest who c j at legal job slot there is live

hits_split : (job : Job) (slot : Slot) (o : Option Canvas)
    → option_map_or (λ canvas. hits_on canvas job slot) o false
    ≡ (option_map_or (λ canvas. is_fresh canvas job slot) o false
    && list_any (is_image slot.layer job.view) (option_map_or (λ (k : Canvas). k.cache) o []))
hits_split job slot None = refl
hits_split job slot (Some canvas) = refl

taken_split : (job : Job) (slot : Slot) (o : Option Canvas)
    → option_map_or (λ canvas. is_taken canvas job slot) o false
    ≡ (option_map_or (λ canvas. is_fresh canvas job slot) o false
    && not (option_map_or (λ (k : Canvas). k.spec.capacity) o 0 == 0))
taken_split job slot None = refl
taken_split job slot (Some canvas) = refl

capacity_split : (o : Option Canvas) → option_map_or (λ (k : Canvas). k.spec.capacity) o 0
    ≡ option_map_or (λ (spec : CanvasSpec). spec.capacity) (option_map (λ (k : Canvas). k.spec) o) 0
capacity_split None = refl
capacity_split (Some canvas) = refl

pub hits_are_of_edits : HitsAreOfEdits
hits_are_of_edits o past rest who c j at legal job slot there is live =
    let s = replay o (started_between past who c j rest) in
    let on = on_start o past rest who c j legal job there in
    let fresh = fresh_now o past rest who c j at legal job slot there is live in
    ap (λ (o2 : Option Job). option_map_or (λ (job : Job). option_map_or (λ slot. on_canvas hits_on s job slot)
    (slice_get job.slots at) false) o2 false) there
    ∙ ap (λ (o2 : Option Slot). option_map_or (λ slot. on_canvas hits_on s job slot) o2 false) is
    ∙ hits_split job slot (slice_get s.canvases job.canvas)
    ∙ (λ i. fresh i && list_any (is_image slot.layer job.view) (cached s (on i)))

-- ---- fates

chosen : (o : Option How) (a b : Bool) → (o ≡ None → a ≡ b)
    → (if is_some o then Dropped else if a then Stored else Kept)
    ≡ (if is_some o then Dropped else if b then Stored else Kept)
chosen None a b same = ap (λ x. if x then Stored else Kept) (same refl)
chosen (Some how) a b same = refl

pub fate_is_of_edits : FateIsOfEdits
fate_is_of_edits o past rest who c j at legal job slot there is =
    let s = replay o (started_between past who c j rest) in
    let on = on_start o past rest who c j legal job there in
    let ended : job.ended ≡ first_end c j rest =
    sym (ap (λ (o2 : Option Job). option_and_then (λ (job : Job). job.ended) o2) there)
    ∙ end_is_first o past rest who c j legal in
    let most : option_map_or (λ (k : Canvas). k.spec.capacity) (slice_get s.canvases job.canvas) 0
    ≡ option_map_or (λ (spec : CanvasSpec). spec.capacity) (slice_get o.canvases c) 0 =
    ap (λ n. option_map_or (λ (k : Canvas). k.spec.capacity) (slice_get s.canvases n) 0) on
    ∙ capacity_split (slice_get s.canvases c)
    ∙ ap (λ (o2 : Option CanvasSpec). option_map_or (λ (spec : CanvasSpec). spec.capacity) o2 0)
    (canvases_stay o (started_between past who c j rest) c) in
    let kept = stays_fresh job.project job.view slot.layer c (started_between past who c j rest) rest
    && not (option_map_or (λ (spec : CanvasSpec). spec.capacity) (slice_get o.canvases c) 0 == 0) in
    chosen job.ended (on_canvas is_taken s job slot) kept
    (λ live. taken_split job slot (slice_get s.canvases job.canvas)
    ∙ (λ i. fresh_now o past rest who c j at legal job slot there is live i && not (most i == 0)))
    ∙ ap (λ (o2 : Option How). if is_some o2 then Dropped else if kept then Stored else Kept) ended
