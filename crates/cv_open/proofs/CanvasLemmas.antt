-- A canvas in form shows its extent.
use Rattle.std.proofs.Common.{◌≡◌, ◌∙◌, ap, sym, subst, refl, ℕ, ℤ, true, List, [], ◌++◌, append-nil, Option, Some, None}
use Rattle.std.proofs.Common.{option_map, Result, Ok, Err, arith}
use Rattle.std.specs.Prelude.{◌<ℤ◌}
use Rattle.std.proofs.lemmas.Bool.Decides.{nat_tests}
use Rattle.std.proofs.lemmas.Int.{ints}
use Rattle.cv_model.specs.Positions.{Rectangle, IsDoubled}
use Rattle.cv_model.specs.ProjectFiles.{IsSize, IsShown}
use Rattle.cv_model.specs.declared.project.CanvasFile.{CanvasFile}
use Rattle.cv_model.specs.Views.{PixelGrid, grid_of}
use Rattle.cv_geom.specs.Views.{is_size, is_spread, is_doubled, right_of, bottom_of, view_of}
use Rattle.cv_open.specs.declared.ends.End.{End}
use Rattle.cv_open.specs.Canvases.{canvas_path, lacking, extent_view, canvas_view}
use Rattle.cv_open.specs.Readings.{only, IsReadAs, IsSaid}
use Rattle.cv_open.proofs.ReadingLemmas.{stays}

size_passes : (w h : ℕ) → IsSize w h → is_size w h ≡ true
size_passes w h size =
    let a = size.wide in let b = size.high in let c = size.most_wide in let d = size.most_high in
    let e = size.most in grind (arith, nat_tests)

spread_passes : (e : Rectangle) → e.xmin <ℤ e.xmax → e.ymin <ℤ e.ymax → is_spread e ≡ true
spread_passes e wide high = grind (arith, ints)

doubled_passes : (z : ℤ) → IsDoubled z → is_doubled z ≡ true
doubled_passes z is = grind (arith, ints)

-- an extent that a size can show has a view
pub shown_has_view : (w h : ℕ) (e : Rectangle) → IsSize w h → IsShown w h e
    → view_of e w h ≡ Ok (grid_of e w h)
shown_has_view w h e size shown =
    let v = grid_of e w h in
    rw (
      size_passes w h size,
      spread_passes e shown.wide shown.high,
      doubled_passes v.lx2 shown.view.left,
      doubled_passes (right_of v) shown.view.right,
      doubled_passes v.ty2 shown.view.top,
      doubled_passes (bottom_of v) shown.view.bottom,
    ) refl

-- a canvas with an extent shows its view
pub extent_said : (k : ℕ) (canvas : CanvasFile) (extent : Rectangle) (view : PixelGrid) → canvas.extent ≡ Some extent
    → view ≡ grid_of extent canvas.width canvas.height → IsSaid (canvas_view k (Some canvas)) (Ok view)
extent_said k canvas extent view is same shelf =
    let given : canvas_view k (Some canvas) ≡ Ok view =
    ap (λ (e : Option Rectangle). extent_view k (option_map (λ x. grid_of x canvas.width canvas.height) e)) is
    ∙ ap Ok (sym same) in
    subst (λ (r : Result PixelGrid End). IsReadAs (only r) (Ok view) shelf shelf) (sym given)
    (stays (only (Ok view)) shelf)

-- a canvas that isn't there is refused
pub none_said : (k : ℕ) (found : Option CanvasFile) (end : End) → found ≡ None
    → IsSaid {X = PixelGrid} (lacking (canvas_path k ++ [])) (Err end) → IsSaid (canvas_view k found) (Err end)
none_said k found end is said shelf =
    let given : canvas_view k found ≡ lacking (canvas_path k ++ []) =
    ap (canvas_view k) is ∙ ap (λ (path : List ℕ). lacking {X = PixelGrid} path) (sym (append-nil (canvas_path k))) in
    subst (λ (r : Result PixelGrid End). IsReadAs (only r) (Err end) shelf shelf) (sym given) (said shelf)
