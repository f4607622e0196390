-- The project of `quick` is in form, and can be opened with the layer that was read.
use Rattle.std.proofs.Common.{ℕ, zero, suc, List, [], ◌∷◌, All, Ok, refl, arith}
use Rattle.std.specs.List.{IsDistinct}
use Rattle.std.specs.Prelude.{nat_eq}
use Rattle.cv_model.specs.declared.colour.Rgb.{Rgb}
use Rattle.cv_model.specs.declared.project.LayerFile.{LayerFile}
use Rattle.cv_model.specs.Openings.{CanOpen}
use Rattle.cv_model.specs.ProjectFiles.{IsInForm, IsLayer}
use Rattle.cv_outside.specs.Seen.{ShelfSeen}
use Rattle.cv_open.specs.declared.layer.Layered.{Layered}
use Rattle.cv_open.specs.Opened.{layer_read}
use Rattle.cv_open.specs.Readings.{only, LeadsTo}
use Rattle.cv_open.specs.Rooms.{all_left}
use Rattle.cv_open.proofs.LimitLemmas.{one_can_open}
use Rattle.cv_top.specs.Opened.{quick_source, quick_layer, quick_file}

layer_is : (fill : Rgb) → IsLayer (quick_layer fill)
layer_is fill = record {
  id = omega arith;
  name = omega arith;
  source = (omega arith, omega arith);
  mask = tt;
  join = tt;
  style = tt;
  fits = refl;
}

one_layer : (fill : Rgb) → All IsLayer (quick_layer fill ∷ [])
one_layer fill zero d below = layer_is fill
one_layer fill (suc k) d below = absurd (omega arith)

one_id : IsDistinct nat_eq (1 ∷ [])
unfolding IsDistinct
one_id = (tt, tt)

quick_in_form : (fill : Rgb) → IsInForm (quick_file fill)
quick_in_form fill = record {
  few_canvases = omega arith;
  few_layers = omega arith;
  canvases = λ k d below. absurd (omega arith);
  layers = one_layer fill;
  distinct = one_id;
}

-- what was read of the layer can be opened
pub quick_can_open : (fill : Rgb) (csv : List ℕ) (read : Layered) (old new : ShelfSeen)
    → LeadsTo (layer_read 0 all_left (quick_source csv)) (only (Ok read)) old new
    → CanOpen (quick_file fill) (read.contents ∷ [])
quick_can_open fill csv read old new leads =
    one_can_open (quick_file fill) (quick_layer fill) (quick_source csv) read old new (quick_in_form fill) refl refl leads
