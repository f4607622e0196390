-- A view: a grid of square pixels laid on the map.
use Rattle.std.specs.Prelude.{ℕ, ◌+◌, ◌-◌, ◌*◌, ◌/◌, ◌≤◌, max, ℤ, pos, negsuc, ◌+ℤ◌, ◌-ℤ◌, ◌*ℤ◌, ◌≤ℤ◌}
use Rattle.cv_model.specs.Positions.{Position, Rectangle, IsDoubled}

-- the left and top edge in doubled millionths, the millionths of a pixel's side, and the size in pixels
pub record PixelGrid : Type 0 where
  pub lx2 : ℤ
  pub ty2 : ℤ
  pub u : ℤ
  pub w : ℕ
  pub h : ℕ

-- what a view keeps: it has pixels, and its four edges are in range
pub record IsView (v : PixelGrid) : Type 0 where
  pub unit : pos 1 ≤ℤ v.u
  pub wide : 1 ≤ v.w
  pub high : 1 ≤ v.h
  pub left : IsDoubled v.lx2
  pub right : IsDoubled (v.lx2 +ℤ pos (2 * v.w) *ℤ v.u)
  pub top : IsDoubled v.ty2
  pub bottom : IsDoubled (v.ty2 -ℤ pos (2 * v.h) *ℤ v.u)

-- the centre of pixel (i, j), where (0, 0) is the top left, in doubled millionths
abbrev pub centre_of : PixelGrid → ℕ → ℕ → Position
centre_of v i j = record { x = v.lx2 +ℤ pos (2 * i + 1) *ℤ v.u; y = v.ty2 -ℤ pos (2 * j + 1) *ℤ v.u }

-- a number as a natural, or 0 below
abbrev pub natural : ℤ → ℕ
natural (pos n) = n
natural (negsuc n) = 0

-- how far b lies above a, or 0
abbrev pub rise : ℤ → ℤ → ℕ
rise a b = natural (b -ℤ a)

-- n / d, rounded upwards
abbrev pub ceiling : ℕ → ℕ → ℕ
ceiling n d = (n + (d - 1)) / d

-- the side of a pixel at which w by h of them span the extent, at least 1
abbrev pub pixel_side : Rectangle → ℕ → ℕ → ℕ
pixel_side e w h = max 1 (max (ceiling (rise e.xmin e.xmax) w) (ceiling (rise e.ymin e.ymax) h))

-- the grid of w by h pixels of this side with the extent in its middle
abbrev pub grid_round : Rectangle → ℕ → ℕ → ℕ → PixelGrid
grid_round e w h u = record {
  lx2 = e.xmin +ℤ e.xmax -ℤ pos (w * u);
  ty2 = e.ymin +ℤ e.ymax +ℤ pos (h * u);
  u = pos u;
  w = w;
  h = h;
}

-- the grid of an extent and a size
abbrev pub grid_of : Rectangle → ℕ → ℕ → PixelGrid
grid_of e w h = grid_round e w h (pixel_side e w h)
