-- The pixels of a rectangle of a view are those of the view that it is by itself.
use Rattle.std.proofs.Common.{◌≡◌, ℕ, ◌+◌, ◌*◌, ◌≤◌, ℤ, pos, ◌+ℤ◌, ◌-ℤ◌, ◌*ℤ◌, ◌≤ℤ◌, List, [], ◌∷◌, ◌++◌, length}
use Rattle.std.proofs.Common.{Option, Some, None, refl, ap, sym, ◌∙◌, arith, zero-add, if◌then◌else◌}
use Rattle.std.proofs.lemmas.Int.{ints}
use Rattle.std.proofs.lemmas.List.{append-nil}
use Rattle.std.proofs.Math.Path.{fun_ext}
use Rattle.std.specs.List.{flat_map}
use Rattle.cv_model.specs.declared.colour.Rgba.{Rgba}
use Rattle.cv_model.specs.declared.feature.Feature.{Feature}
use Rattle.cv_model.specs.declared.symbol.Symbol.{Symbol}
use Rattle.cv_model.specs.Colours.{transparent, laid}
use Rattle.cv_model.specs.Positions.{Position, IsDoubled}
use Rattle.cv_model.specs.Geometries.{GeometryLists}
use Rattle.cv_model.specs.Pens.{PenParts}
use Rattle.cv_model.specs.Markers.{MarkerParts}
use Rattle.cv_model.specs.Layers.{Contents, Features, Cells, Parts}
use Rattle.cv_model.specs.Texts.{feature_symbol}
use Rattle.cv_model.specs.Views.{PixelGrid, IsView, centre_of}
use Rattle.cv_model.specs.Pictures.{fill_strokes, pen_strokes, marker_strokes, strokes_of, strokes}
use Rattle.cv_model.specs.Pictures.{is_shown, painted, pixel}
use Rattle.cv_model.specs.Rasters.{pixels_of}
use Rattle.cv_model.proofs.Rows.{length_pixels}
use Rattle.cv_geom.proofs.PositionLemmas.{same_place}
use Rattle.cv_geom.proofs.ProductLemmas.{add-mul, scaled}
use Rattle.cv_layer.specs.declared.strips.Rect.{Rect}
use Rattle.cv_layer.specs.Strips.{rect_pixels, strip_pixels}
use Rattle.cv_paint.specs.Windows.{LiesInView, window_of, whole_strips}
use Rattle.cv_paint.proofs.PaintedLemmas.{pixels_same}

-- so many pixels, and then so many half pixels
reach_is : (a i : ℕ) (u : ℤ) → pos (2 * a) *ℤ u +ℤ pos (2 * i + 1) *ℤ u ≡ pos (2 * (a + i) + 1) *ℤ u
reach_is a i u =
    let sum : pos (2 * a) +ℤ pos (2 * i + 1) ≡ pos (2 * (a + i) + 1) = omega (arith, ints) in
    sym (add-mul (pos (2 * a)) (pos (2 * i + 1)) u) ∙ ap (λ (z : ℤ). z *ℤ u) sum

-- the centres are those of the view
window_centre : (view : PixelGrid) (r : Rect) (i j : ℕ)
    → centre_of (window_of view r) i j ≡ centre_of view (r.i + i) (r.j + j)
window_centre view r i j =
    let x = reach_is r.i i view.u in
    let y = reach_is r.j j view.u in
    same_place _ _ (omega (arith, ints, x)) (omega (arith, ints, y))

-- and so are the pens and the markers
pens_same : (view : PixelGrid) (r : Rect) (p : Position) (g : GeometryLists) (pen : Option PenParts)
    → pen_strokes (window_of view r) p g pen ≡ pen_strokes view p g pen
pens_same view r p g None = refl
pens_same view r p g (Some pen) = refl

markers_same : (view : PixelGrid) (r : Rect) (p : Position) (g : GeometryLists) (marker : Option MarkerParts)
    → marker_strokes (window_of view r) p g marker ≡ marker_strokes view p g marker
markers_same view r p g None = refl
markers_same view r p g (Some marker) = refl

strokes_same : (view : PixelGrid) (r : Rect) (p : Position) (s : Option Symbol) (g : Option GeometryLists)
    → strokes s (window_of view r) p g ≡ strokes s view p g
unfolding strokes_of
strokes_same view r p None g = refl
strokes_same view r p (Some s) None = refl
strokes_same view r p (Some s) (Some g) =
    ap (λ (cs : List Rgba). fill_strokes p g s.fill ++ (cs ++ marker_strokes (window_of view r) p g s.marker))
    (pens_same view r p g s.pen)
    ∙ ap (λ (cs : List Rgba). fill_strokes p g s.fill ++ (pen_strokes view p g s.pen ++ cs))
    (markers_same view r p g s.marker)

painted_same : (parts : Parts) (view : PixelGrid) (r : Rect) (p : Position) (c : Contents)
    → painted c parts (window_of view r) p ≡ painted c parts view p
painted_same parts view r p (Features columns features) =
    ap (λ (f : Feature → List Rgba). laid (flat_map f features))
    (fun_ext (λ feature. strokes_same view r p (feature_symbol parts feature) feature.geometry))
painted_same parts view r p (Cells grid) = refl

-- the pixels are those of the view
window_pixel : (parts : Parts) (view : PixelGrid) (r : Rect) (i j : ℕ)
    → pixel parts (window_of view r) i j ≡ pixel parts view (r.i + i) (r.j + j)
unfolding pixel
window_pixel parts view r i j =
    let p = centre_of (window_of view r) i j in
    ap (λ (c : Rgba). if is_shown p parts.mask then c else transparent) (painted_same parts view r p parts.own.contents)
    ∙ ap (λ (q : Position). if is_shown q parts.mask then painted parts.own.contents parts view q else transparent)
    (window_centre view r i j)

-- a rectangle's pixels
pub window_pixels : (parts : Parts) (view : PixelGrid) (r : Rect)
    → pixels_of r.w r.h (pixel parts (window_of view r)) ≡ rect_pixels (pixel parts view) r
window_pixels parts view r =
    pixels_same r.w r.h (pixel parts (window_of view r)) (λ i j. pixel parts view (r.i + i) (r.j + j))
    (λ i j column row. window_pixel parts view r i j)

-- a list of no length
none_long : {A : Type 0} (xs : List A) → length xs ≡ 0 → xs ≡ []
none_long [] none = refl
none_long (x ∷ xs) none = absurd (omega (arith, none))

-- a rectangle without columns or rows has no pixels
pub rect_none : (f : ℕ → ℕ → Rgba) (r : Rect) → r.w * r.h ≡ 0 → rect_pixels f r ≡ []
rect_none f r none = none_long (rect_pixels f r) (length_pixels r.w r.h (λ i j. f (r.i + i) (r.j + j)) ∙ none)

-- the one rectangle of all pixels has them all
pub whole_pixels : (view : PixelGrid) (f : ℕ → ℕ → Rgba) → strip_pixels f (whole_strips view) ≡ pixels_of view.w view.h f
whole_pixels view f =
    append-nil (pixels_of view.w view.h (λ i j. f (0 + i) (0 + j)))
    ∙ pixels_same view.w view.h (λ i j. f (0 + i) (0 + j)) f (λ i j column row. ap (λ (n : ℕ). f n (0 + j)) (zero-add i) ∙ ap (λ (n : ℕ). f i n) (zero-add j))

-- ---- the view that a rectangle is by itself

-- so many pixels, and then more
reaches_are : (a b : ℕ) (u : ℤ) → pos (2 * a) *ℤ u +ℤ pos (2 * b) *ℤ u ≡ pos (2 * (a + b)) *ℤ u
reaches_are a b u =
    let sum : pos (2 * a) +ℤ pos (2 * b) ≡ pos (2 * (a + b)) = omega (arith, ints) in
    sym (add-mul (pos (2 * a)) (pos (2 * b)) u) ∙ ap (λ (z : ℤ). z *ℤ u) sum

-- the edges eastwards
edges_east : (x u : ℤ) (a b m : ℕ) → pos 1 ≤ℤ u → a + b ≤ m → IsDoubled x → IsDoubled (x +ℤ pos (2 * m) *ℤ u)
    → IsDoubled (x +ℤ pos (2 * a) *ℤ u) × IsDoubled (x +ℤ pos (2 * a) *ℤ u +ℤ pos (2 * b) *ℤ u)
edges_east x u a b m unit less low high =
    let first = scaled (2 * a) (2 * m) u (omega (arith, less)) unit in
    let both = scaled (2 * (a + b)) (2 * m) u (omega (arith, less)) unit in
    let sum = reaches_are a b u in
    ((omega (arith, ints), omega (arith, ints)), (omega (arith, ints), omega (arith, ints)))

-- the edges southwards
edges_south : (y u : ℤ) (a b m : ℕ) → pos 1 ≤ℤ u → a + b ≤ m → IsDoubled y → IsDoubled (y -ℤ pos (2 * m) *ℤ u)
    → IsDoubled (y -ℤ pos (2 * a) *ℤ u) × IsDoubled (y -ℤ pos (2 * a) *ℤ u -ℤ pos (2 * b) *ℤ u)
edges_south y u a b m unit less low high =
    let first = scaled (2 * a) (2 * m) u (omega (arith, less)) unit in
    let both = scaled (2 * (a + b)) (2 * m) u (omega (arith, less)) unit in
    let sum = reaches_are a b u in
    ((omega (arith, ints), omega (arith, ints)), (omega (arith, ints), omega (arith, ints)))

-- a rectangle with pixels is a view
pub window_is : (view : PixelGrid) (r : Rect) → IsView view → LiesInView view r → 1 ≤ r.w → 1 ≤ r.h
    → IsView (window_of view r)
window_is view r is inside wide high =
    let east = edges_east view.lx2 view.u r.i r.w view.w is.unit inside.columns is.left is.right in
    let south = edges_south view.ty2 view.u r.j r.h view.h is.unit inside.rows is.top is.bottom in
    record {
      unit = is.unit;
      wide = wide;
      high = high;
      left = east.0;
      right = east.1;
      top = south.0;
      bottom = south.1;
    }

-- a view by its parts
pub window_made : (view : PixelGrid) (r : Rect) (lx2 ty2 u : ℤ) → lx2 ≡ view.lx2 +ℤ pos (2 * r.i) *ℤ view.u
    → ty2 ≡ view.ty2 -ℤ pos (2 * r.j) *ℤ view.u → u ≡ view.u
    → (let made : PixelGrid = record { lx2 = lx2; ty2 = ty2; u = u; w = r.w; h = r.h } in made) ≡ window_of view r
window_made view r lx2 ty2 u left top unit = rw (left, top, unit) refl
