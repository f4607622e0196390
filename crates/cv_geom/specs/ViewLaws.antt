-- What holds of views whatever the extent and the size: laws, each the clause of a function of its name.
use Rattle.std.specs.Prelude.{ℕ, ◌≡◌, ◌<◌, ℤ, pos, ◌+ℤ◌, ◌*ℤ◌, ◌<ℤ◌, ◌≤ℤ◌, ◌⊎◌, Ok}
use Rattle.cv_model.specs.Positions.{Position, Rectangle}
use Rattle.cv_model.specs.Views.{PixelGrid, IsView, centre_of}
use Rattle.cv_geom.specs.Views.{right_of, bottom_of, view_of, pan}

-- two pans in a row are the pan by their sums
abbrev pub PansAdd : Type 0
PansAdd =
    (v w : PixelGrid) (a b c d : ℤ) → pan v a b ≡ Ok w → pan w c d ≡ pan v (a +ℤ c) (b +ℤ d)

-- a grid shows an extent: the extent lies wholly in it, in its middle, and in one direction at least
-- its margin is less than half a millionth for each pixel, which is what rounding a pixel's side upwards adds
pub record Shows (e : Rectangle) (v : PixelGrid) : Type 0 where
  pub west : v.lx2 ≤ℤ (pos 2 *ℤ e.xmin)
  pub east : (pos 2 *ℤ e.xmax) ≤ℤ right_of v
  pub south : bottom_of v ≤ℤ (pos 2 *ℤ e.ymin)
  pub north : (pos 2 *ℤ e.ymax) ≤ℤ v.ty2
  pub middle_across : v.lx2 +ℤ right_of v ≡ pos 2 *ℤ e.xmin +ℤ pos 2 *ℤ e.xmax
  pub middle_down : v.ty2 +ℤ bottom_of v ≡ pos 2 *ℤ e.ymin +ℤ pos 2 *ℤ e.ymax
  pub margin : ((pos 2 *ℤ e.xmin) <ℤ (v.lx2 +ℤ pos v.w)) ⊎ (v.ty2 <ℤ (pos 2 *ℤ e.ymax +ℤ pos v.h))

-- the view of an extent shows it
abbrev pub ViewsShowTheirExtent : Type 0
ViewsShowTheirExtent = (e : Rectangle) (w h : ℕ) (v : PixelGrid) → view_of e w h ≡ Ok v → Shows e v

-- a position lies between the edges of a grid and on none of them
pub record LiesWithin (v : PixelGrid) (p : Position) : Type 0 where
  pub west : v.lx2 <ℤ p.x
  pub east : p.x <ℤ right_of v
  pub south : bottom_of v <ℤ p.y
  pub north : p.y <ℤ v.ty2

-- the centre of each pixel lies within its view
abbrev pub CentresLieWithin : Type 0
CentresLieWithin = (v : PixelGrid) (i j : ℕ) → IsView v → i < v.w → j < v.h → LiesWithin v (centre_of v i j)
