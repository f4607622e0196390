-- The commands that give a canvas a view, over plain seats.
use Rattle.std.proofs.Common.{◌≡◌, refl, ap, sym, ◌∙◌, ℕ, ℤ, ◌==◌, ◌&&◌, pos, Bool, true, false, if◌then◌else◌, [], length, slice_get, Option, Some, None, option_map, Result, Ok, Err, IfOk, IsNone, IsSomeAnd, arith}
use Rattle.std.specs.Option.{option_map_or}
use Rattle.std.proofs.lemmas.Bool.{false≢true}
use Rattle.std.proofs.lemmas.Bool.Decides.{nat_tests}
use Rattle.cv_model.specs.declared.project.CanvasSpec.{CanvasSpec}
use Rattle.cv_model.specs.Positions.{Rectangle}
use Rattle.cv_model.specs.Views.{PixelGrid, grid_of}
use Rattle.cv_geom.specs.declared.views.ViewError.{ViewError}
use Rattle.cv_geom.specs.declared.views.ViewError.TheVariants as view_error
use Rattle.cv_geom.specs.Views.{is_size, is_spread, is_in_range, kept, view_of, moved, pan, scaled_side, resized, zoom}
use Rattle.cv_event.specs.declared.entry.Act.TheVariants as act
use Rattle.cv_event.specs.declared.refused.Reason.TheVariants as reason
use Rattle.cv_event.specs.States.{Canvas, State}
use Rattle.cv_script.specs.declared.script.Command.{Command}
use Rattle.cv_script.specs.declared.script.Command.TheVariants as command
use Rattle.cv_session.specs.Responses.{Refuses as Denies, shows, response}
use Rattle.cv_session.specs.Plays.{file_of}
use Rattle.cv_session.specs.Seats.{Seat, now, tasks_of, canvas_spec, IsOfSize, Refuses, Shows, Obeys}
use Rattle.cv_session.proofs.PlayLemmas.{same_some}
use Rattle.cv_session.proofs.MoveLemmas.{does, declines, denies}
use Rattle.cv_session.proofs.ObeyLemmas.{plain, no_canvas}

-- ---- the size of what is made

abbrev IsSizedAs : ℕ → ℕ → PixelGrid → Type 0
IsSizedAs w h v = (v.w ≡ w) × (v.h ≡ h)

kept_sized : (g : PixelGrid) → IfOk (kept g) (IsSizedAs g.w g.h)
kept_sized g = by (is_in_range g)
  where
    by : (b : Bool) → IfOk (if b then Ok g else Err view_error.Range) (IsSizedAs g.w g.h)
    by true = (refl, refl)
    by false = tt

view_sized : (e : Rectangle) (w h : ℕ) → IfOk (view_of e w h) (IsSizedAs w h)
view_sized e w h = by (is_size w h) (is_spread e)
  where
    by : (a b : Bool) → IfOk (if a then (if b then kept (grid_of e w h) else Err view_error.Empty) else Err view_error.Size) (IsSizedAs w h)
    by true true = kept_sized (grid_of e w h)
    by true false = tt
    by false b = tt

of_size : (s : State) (c w h : ℕ) (r : Result PixelGrid ViewError) → IsSomeAnd (slice_get s.canvases c) (λ (k : Canvas). (w ≡ k.spec.w) × (h ≡ k.spec.h))
    → IfOk r (IsSizedAs w h) → IfOk r (IsOfSize s c)
of_size s c w h (Err e) k f = tt
of_size s c w h (Ok v) k f = by (slice_get s.canvases c) k
  where
    by : (o : Option Canvas) → IsSomeAnd o (λ (k : Canvas). (w ≡ k.spec.w) × (h ≡ k.spec.h)) → IsSomeAnd o (λ (k : Canvas). (v.w ≡ k.spec.w) × (v.h ≡ k.spec.h))
    by None k = absurd k
    by (Some x) k = (f.0 ∙ k.0, f.1 ∙ k.1)

-- a view of an extent is of the canvas's size
pub view_of_size : (s : State) (c : ℕ) (e : Rectangle) (spec : CanvasSpec) → Some spec ≡ option_map canvas_spec (slice_get s.canvases c)
    → IfOk (view_of e spec.w spec.h) (IsOfSize s c)
view_of_size s c e spec is = of_size s c spec.w spec.h (view_of e spec.w spec.h) (by (slice_get s.canvases c) is) (view_sized e spec.w spec.h)
  where
    by : (o : Option Canvas) → Some spec ≡ option_map canvas_spec o → IsSomeAnd o (λ (k : Canvas). (spec.w ≡ k.spec.w) × (spec.h ≡ k.spec.h))
    by None is = absurd cc
    by (Some k) is =
        let same : spec ≡ k.spec = same_some is in
        (ap (λ (x : CanvasSpec). x.w) same, ap (λ (x : CanvasSpec). x.h) same)

-- so is one that is moved or scaled
pub pan_of_size : (s : State) (c : ℕ) (view : PixelGrid) (dx dy : ℤ) → IsOfSize s c view → IfOk (pan view dx dy) (IsOfSize s c)
pan_of_size s c view dx dy h = of_size s c view.w view.h (pan view dx dy) h (kept_sized (moved view dx dy))

pub zoom_of_size : (s : State) (c : ℕ) (view : PixelGrid) (num den : ℕ) → IsOfSize s c view → IfOk (zoom view num den) (IsOfSize s c)
zoom_of_size s c view num den h = of_size s c view.w view.h (zoom view num den) h (kept_sized (resized view (pos (scaled_side view.u num den))))

-- a view of a canvas's size isn't refused by its canvas
pub not_unknown : (s : State) (c : ℕ) (view : PixelGrid) → IsOfSize s c view → IsNone (slice_get s.canvases c) → ⊥
not_unknown s c view h none = by (slice_get s.canvases c) h none
  where
    by : (o : Option Canvas) → IsSomeAnd o (λ (k : Canvas). (view.w ≡ k.spec.w) × (view.h ≡ k.spec.h)) → IsNone o → ⊥
    by None h none = absurd h
    by (Some k) h none = absurd cc

pub not_other_size : (s : State) (c : ℕ) (view : PixelGrid) → IsOfSize s c view
    → IsSomeAnd (slice_get s.canvases c) (λ k. ((view.w == k.spec.w) && (view.h == k.spec.h)) ≡ false) → ⊥
not_other_size s c view h other = by (slice_get s.canvases c) h other
  where
    same : (m n : ℕ) → m ≡ n → (m == n) ≡ true
    same m n e = grind (arith, nat_tests)

    both : (a b : Bool) → a ≡ true → b ≡ true → (a && b) ≡ false → ⊥
    both true b e f g = absurd (false≢true (sym g ∙ f))
    both false b e f g = absurd (false≢true e)

    by : (o : Option Canvas) → IsSomeAnd o (λ (k : Canvas). (view.w ≡ k.spec.w) × (view.h ≡ k.spec.h))
        → IsSomeAnd o (λ (k : Canvas). ((view.w == k.spec.w) && (view.h == k.spec.h)) ≡ false) → ⊥
    by None h other = absurd h
    by (Some k) h other = both (view.w == k.spec.w) (view.h == k.spec.h) (same view.w k.spec.w h.0) (same view.h k.spec.h h.1) other

-- ---- commands

pub shown : (old new : Seat) (line c : ℕ) (asked : Command) (r : Result PixelGrid ViewError)
    → response (now old) (length (tasks_of old)) asked ≡ shows c r → file_of asked ≡ None → Shows old new line c r → Obeys old new line asked []
shown old new line c asked (Ok view) is f e = does old new line asked (act.View c view) [] is (plain old new line asked (act.View c view) e refl refl f)
shown old new line c asked (Err view_error.Empty) is f e = denies old new line asked reason.Empty is (declines old new line reason.Empty e)
shown old new line c asked (Err view_error.Range) is f e = denies old new line asked reason.Range is (declines old new line reason.Range e)
shown old new line c asked (Err view_error.Size) is f e = denies old new line asked reason.Range is (declines old new line reason.Range e)

pub view_response : (s : State) (held c : ℕ) (e : Rectangle) (spec : CanvasSpec) → Some spec ≡ option_map canvas_spec (slice_get s.canvases c)
    → response s held (command.View c e) ≡ shows c (view_of e spec.w spec.h)
view_response s held c e spec is = by (slice_get s.canvases c) is
  where
    by : (o : Option Canvas) → Some spec ≡ option_map canvas_spec o
        → option_map_or (λ (k : Canvas). shows c (view_of e k.spec.w k.spec.h)) o (Denies reason.UnknownCanvas) ≡ shows c (view_of e spec.w spec.h)
    by None is = absurd cc
    by (Some k) is = ap (λ (x : CanvasSpec). shows c (view_of e x.w x.h)) (sym (same_some is))

pub view_unknown : (old new : Seat) (line c : ℕ) (e : Rectangle) → None ≡ option_map canvas_spec (slice_get (now old).canvases c)
    → Refuses old new line reason.UnknownCanvas → Obeys old new line (command.View c e) []
view_unknown old new line c e none f =
    denies old new line (command.View c e) reason.UnknownCanvas (no_canvas (now old) c _ (by (slice_get (now old).canvases c) none))
    (declines old new line reason.UnknownCanvas f)
  where
    by : (o : Option Canvas) → None ≡ option_map canvas_spec o → o ≡ None
    by None h = refl
    by (Some k) h = absurd cc
