-- Views: pans in a row, the extent that a view shows, and the centres of its pixels.
use Rattle.std.proofs.Common.{◌≡◌, ◌∙◌, sym, ap, subst, refl, ℕ, zero, suc, ◌+◌, ◌*◌, ◌<◌, ◌≤◌, max, Ok, ◌⊎◌, inl, inr, ℤ, pos, negsuc, ◌+ℤ◌, ◌-ℤ◌, ◌*ℤ◌, ◌<ℤ◌, ◌≤ℤ◌, arith}
use Rattle.std.proofs.Math.Nat.{mul-le-mul_right, mul-le-mul_left}
use Rattle.std.proofs.lemmas.Int.{ints}
use Rattle.cv_model.specs.Positions.{Rectangle}
use Rattle.cv_model.specs.Views.{PixelGrid, IsView, centre_of, ceiling, natural, rise, pixel_side, grid_round, grid_of}
use Rattle.cv_geom.specs.Views.{IsSpread, kept, view_of, moved, pan}
use Rattle.cv_geom.specs.ViewLaws.{LiesWithin, Shows}
use Rattle.cv_geom.proofs.CauseLemmas.{kept_same, view_found}
use Rattle.cv_geom.proofs.ProductLemmas.{add-mul}

-- two strides in a row
stride-stride : (a b u : ℤ) → pos 2 *ℤ (a +ℤ b) *ℤ u ≡ pos 2 *ℤ a *ℤ u +ℤ pos 2 *ℤ b *ℤ u
stride-stride a b u =
    let twice : pos 2 *ℤ (a +ℤ b) ≡ pos 2 *ℤ a +ℤ pos 2 *ℤ b = omega (arith, ints) in
    ap (λ z. z *ℤ u) twice ∙ add-mul (pos 2 *ℤ a) (pos 2 *ℤ b) u

-- two moves in a row
moved-moved : (v : PixelGrid) (a b c d : ℤ) → moved (moved v a b) c d ≡ moved v (a +ℤ c) (b +ℤ d)
moved-moved v a b c d =
    let across = stride-stride a c v.u in
    let down = stride-stride b d v.u in
    let east : v.lx2 +ℤ pos 2 *ℤ a *ℤ v.u +ℤ pos 2 *ℤ c *ℤ v.u ≡ v.lx2 +ℤ pos 2 *ℤ (a +ℤ c) *ℤ v.u = omega (arith, ints) in
    let south : v.ty2 -ℤ pos 2 *ℤ b *ℤ v.u -ℤ pos 2 *ℤ d *ℤ v.u ≡ v.ty2 -ℤ pos 2 *ℤ (b +ℤ d) *ℤ v.u = omega (arith, ints) in
    cc

-- two pans in a row are one
pub pan-pan : (v w : PixelGrid) (a b c d : ℤ) → pan v a b ≡ Ok w → pan w c d ≡ pan v (a +ℤ c) (b +ℤ d)
pan-pan v w a b c d first =
    let same = kept_same (moved v a b) w first in
    ap (λ (g : PixelGrid). pan g c d) (sym same) ∙ ap kept (moved-moved v a b c d)

-- the way from an edge to a centre is some, and less than that to the far edge
within :
    (i n : ℕ) (u : ℤ) → pos 1 ≤ℤ u → i < n
    → (pos 0 <ℤ (pos (2 * i + 1) *ℤ u)) × ((pos (2 * i + 1) *ℤ u) <ℤ (pos (2 * n) *ℤ u))
within i n (pos m) unit less =
    let step : 2 * i + 2 ≤ 2 * n = omega arith in
    (omega (arith, ints), omega (arith, ints, mul-le-mul_right m step))
within i n (negsuc m) unit less = absurd (omega (arith, ints))

-- the centre of a pixel lies within its view
pub centre_within : (v : PixelGrid) (i j : ℕ) → IsView v → i < v.w → j < v.h → LiesWithin v (centre_of v i j)
centre_within v i j view column row =
    let across = within i v.w v.u view.unit column in
    let down = within j v.h v.u view.unit row in
    record {
      west = omega (arith, ints);
      east = omega (arith, ints);
      south = omega (arith, ints);
      north = omega (arith, ints);
    }

-- a quotient rounded upwards is enough, and no more than needed
ceiling_bounds : (n d : ℕ) → 1 ≤ d → (n ≤ d * ceiling n d) × (d * ceiling n d < n + d)
ceiling_bounds n d some = (omega arith, omega arith)

-- how far the greater of two numbers lies above the lesser
natural_is : (z : ℤ) → pos 0 ≤ℤ z → pos (natural z) ≡ z
natural_is (pos n) low = refl
natural_is (negsuc n) low = absurd (omega (arith, ints))

-- what a rise is, where there is one
rise_is : (a b : ℤ) → a <ℤ b → pos (rise a b) ≡ b -ℤ a
rise_is a b less = natural_is (b -ℤ a) (omega (arith, ints))

-- pixels with the greater of two shares as their side reach far enough in both directions, and in one
-- hardly farther
fills :
    (width height w h a b u : ℕ) → (width ≤ w * a) × (w * a < width + w)
    → (height ≤ h * b) × (h * b < height + h) → 1 ≤ a → u ≡ max 1 (max a b)
    → (width ≤ w * u) × (height ≤ h * u) × ((w * u < width + w) ⊎ (h * u < height + h))
fills width height w h a b u across down some side = (omega (arith, mul-le-mul_left w a_in), omega (arith, mul-le-mul_left h b_in), one)
  where
    a_in : a ≤ u
    a_in = omega arith

    b_in : b ≤ u
    b_in = omega arith

    pick : (u ≡ a) ⊎ (u ≡ b) → (w * u < width + w) ⊎ (h * u < height + h)
    pick (inl same) = inl (rw same across.1)
    pick (inr same) = inr (rw same down.1)

    one : (w * u < width + w) ⊎ (h * u < height + h)
    one = pick (grind arith)

-- the grid of pixels that fill an extent so shows it
shown :
    (e : Rectangle) (w h width height u : ℕ) → pos width ≡ e.xmax -ℤ e.xmin → pos height ≡ e.ymax -ℤ e.ymin
    → width ≤ w * u → height ≤ h * u → (w * u < width + w) ⊎ (h * u < height + h)
    → Shows e (grid_round e w h u)
shown e w h width height u width_is height_is across down one =
    record {
      west = omega (arith, ints);
      east = omega (arith, ints);
      south = omega (arith, ints);
      north = omega (arith, ints);
      middle_across = omega (arith, ints);
      middle_down = omega (arith, ints);
      margin = pick one;
    }
  where
    pick :
        (w * u < width + w) ⊎ (h * u < height + h)
        → ((pos 2 *ℤ e.xmin) <ℤ ((grid_round e w h u).lx2 +ℤ pos w)) ⊎ ((grid_round e w h u).ty2 <ℤ (pos 2 *ℤ e.ymax +ℤ pos h))
    pick (inl less) = inl (omega (arith, ints))
    pick (inr less) = inr (omega (arith, ints))

-- a factor of what is something is something
some_factor : (n d k : ℕ) → 1 ≤ n → n ≤ d * k → 1 ≤ k
some_factor n d zero some reached = omega arith
some_factor n d (suc k) some reached = omega arith

-- the grid of an extent shows it
grid_shows : (e : Rectangle) (w h : ℕ) → 1 ≤ w → 1 ≤ h → IsSpread e → Shows e (grid_of e w h)
grid_shows e w h wide high spread =
    let width = rise e.xmin e.xmax in
    let height = rise e.ymin e.ymax in
    let width_is = rise_is e.xmin e.xmax spread.0 in
    let height_is = rise_is e.ymin e.ymax spread.1 in
    let across = ceiling_bounds width w wide in
    let down = ceiling_bounds height h high in
    let some : 1 ≤ ceiling width w = some_factor width w (ceiling width w) (omega (arith, ints)) across.0 in
    let u = pixel_side e w h in
    let filled = fills width height w h (ceiling width w) (ceiling height h) u across down some refl in
    shown e w h width height u width_is height_is filled.0 filled.1 filled.2

-- the view of an extent shows it
pub view_shows : (e : Rectangle) (w h : ℕ) (v : PixelGrid) → view_of e w h ≡ Ok v → Shows e v
view_shows e w h v found =
    let parts = view_found e w h v found in
    let shown = grid_shows e w h parts.0.0 parts.0.2 parts.1.0 in
    subst (λ (g : PixelGrid). Shows e g) parts.1.1 shown
