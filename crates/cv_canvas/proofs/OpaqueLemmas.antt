-- An opaque colour on a canvas that keeps where it lies.
use Rattle.std.proofs.Common.{◌≡◌, ℕ, Bool, true, false, if◌then◌else◌, refl, ap, sym}
use Rattle.std.proofs.Math.Path.{fun_ext}
use Rattle.cv_model.specs.declared.colour.Rgba.{Rgba}
use Rattle.cv_model.specs.Colours.{over, transparent}
use Rattle.cv_geom.specs.declared.runs.Run.{Run}
use Rattle.cv_geom.specs.Runs.{is_on}
use Rattle.cv_canvas.specs.Canvas.{changed, with_run}
use Rattle.cv_canvas.specs.Cover.{is_covered_in}
use Rattle.cv_canvas.specs.Opaque.{Inked, inked, inked_in}
use Rattle.cv_canvas.proofs.MixingLemmas.{over_opaque}

-- where the colour lies nowhere, all is clear
pub inked_nowhere : (canvas : Inked) → is_covered_in canvas.cover ≡ (λ i j. false)
    → inked_in canvas ≡ (λ i j. transparent)
inked_nowhere canvas clear =
    ap {B = ℕ → ℕ → Rgba} (λ (f : ℕ → ℕ → Bool) (i j : ℕ). inked canvas.colour (f i j)) clear

-- the colour on a pixel or not, laid there or not
inked_at : (colour : Rgba) (on lies : Bool) → colour.a ≡ 255
    → inked colour (if on then true else lies) ≡ (if on then over colour (inked colour lies) else inked colour lies)
inked_at colour true lies full = sym (over_opaque colour (inked colour lies) full)
inked_at colour false lies full = refl

-- the colour laid on a run
pub inked_run : (colour : Rgba) (lies : ℕ → ℕ → Bool) (run : Run) → colour.a ≡ 255
    → (λ i j. inked colour (changed (λ _. true) lies run i j)) ≡ with_run colour (λ i j. inked colour (lies i j)) run
inked_run colour lies run full =
    fun_ext (λ i. fun_ext (λ j. inked_at colour (is_on run i j) (lies i j) full))
