-- Views: the view of an extent or why there is none, and views moved and scaled.
--
-- Source: this project's own view, in whole millionths; a pixel's side is rounded upwards, so that the
-- extent is shown whole.
use Rattle.std.specs.Prelude.{ℕ, max, ◌≡◌, ◌*◌, ◌<◌, ◌≤◌, nat_le, ℤ, pos, negsuc, ◌+ℤ◌, ◌-ℤ◌, ◌*ℤ◌, ◌<ℤ◌, ◌≤ℤ◌, int_lt, int_le, Bool, ◌&&◌, if◌then◌else◌, ◌⊎◌, Result, Ok, Err}
use Rattle.cv_model.specs.Positions.{Rectangle}
use Rattle.cv_model.specs.Views.{PixelGrid, natural, ceiling, grid_of}
use Rattle.cv_geom.specs.declared.views.ViewError.{ViewError}
use Rattle.cv_geom.specs.declared.views.ViewError.TheVariants.{Size, Empty, Range}

-- sides of 1 to 4,096 pixels, and at most 2,097,152 pixels
abbrev pub is_size : ℕ → ℕ → Bool
is_size w h = nat_le 1 w && nat_le w 4096 && nat_le 1 h && nat_le h 4096 && nat_le (w * h) 2097152

-- an extent has a width and a height
abbrev pub is_spread : Rectangle → Bool
is_spread e = int_lt e.xmin e.xmax && int_lt e.ymin e.ymax

-- a number is a coordinate in doubled millionths
abbrev pub is_doubled : ℤ → Bool
is_doubled z = int_le (negsuc 3999999999999999) z && int_le z (pos 4000000000000000)

-- the right edge of a grid
abbrev pub right_of : PixelGrid → ℤ
right_of v = v.lx2 +ℤ pos (2 * v.w) *ℤ v.u

-- the bottom edge of a grid
abbrev pub bottom_of : PixelGrid → ℤ
bottom_of v = v.ty2 -ℤ pos (2 * v.h) *ℤ v.u

-- all edges of a grid are in range
abbrev pub is_in_range : PixelGrid → Bool
is_in_range v =
    (is_doubled v.lx2 && is_doubled (right_of v)) && (is_doubled v.ty2 && is_doubled (bottom_of v))

-- a grid, if its edges are in range
abbrev pub kept : PixelGrid → Result PixelGrid ViewError
kept v = if is_in_range v then Ok v else Err Range

-- the view of an extent: the first of the causes why there is none, or its grid
abbrev pub view_of : Rectangle → ℕ → ℕ → Result PixelGrid ViewError
view_of e w h =
    if is_size w h
    then (if is_spread e then kept (grid_of e w h) else Err Empty)
    else Err Size

-- sides of 1 to 4,096 pixels, and at most 2,097,152 pixels
abbrev pub IsSize : ℕ → ℕ → Type 0
IsSize w h = (1 ≤ w) × (w ≤ 4096) × (1 ≤ h) × (h ≤ 4096) × (w * h ≤ 2097152)

-- a side is 0 or above 4,096 pixels, or there are more than 2,097,152 pixels
abbrev pub IsNoSize : ℕ → ℕ → Type 0
IsNoSize w h = (w ≡ 0) ⊎ (h ≡ 0) ⊎ (4096 < w) ⊎ (4096 < h) ⊎ (2097152 < w * h)

-- an extent has a width and a height
abbrev pub IsSpread : Rectangle → Type 0
IsSpread e = (e.xmin <ℤ e.xmax) × (e.ymin <ℤ e.ymax)

-- an extent has no width or no height
abbrev pub IsEmpty : Rectangle → Type 0
IsEmpty e = (e.xmax ≤ℤ e.xmin) ⊎ (e.ymax ≤ℤ e.ymin)

-- a number is no coordinate in doubled millionths
abbrev pub IsFar : ℤ → Type 0
IsFar z = (z <ℤ negsuc 3999999999999999) ⊎ (pos 4000000000000000 <ℤ z)

-- an edge of a grid is out of range: the left, the right, the top or the bottom one
abbrev pub LeavesRange : PixelGrid → Type 0
LeavesRange v = (IsFar v.lx2 ⊎ IsFar (right_of v)) ⊎ (IsFar v.ty2 ⊎ IsFar (bottom_of v))

-- a grid moved by so many of its pixels, eastwards and southwards
abbrev pub moved : PixelGrid → ℤ → ℤ → PixelGrid
moved v dx dy = record v { lx2 = v.lx2 +ℤ pos 2 *ℤ dx *ℤ v.u; ty2 = v.ty2 -ℤ pos 2 *ℤ dy *ℤ v.u }

-- the view moved by so many of its pixels, if that stays in range
abbrev pub pan : PixelGrid → ℤ → ℤ → Result PixelGrid ViewError
pan v dx dy = kept (moved v dx dy)

-- a pixel's side, num / den times as long, rounded upwards, at least 1
abbrev pub scaled_side : ℤ → ℕ → ℕ → ℕ
scaled_side u num den = max 1 (ceiling (natural u * num) den)

-- a grid with pixels of another side round the same middle
abbrev pub resized : PixelGrid → ℤ → PixelGrid
resized v u = record v {
  lx2 = v.lx2 +ℤ pos v.w *ℤ v.u -ℤ pos v.w *ℤ u;
  ty2 = v.ty2 -ℤ pos v.h *ℤ v.u +ℤ pos v.h *ℤ u;
  u = u;
}

-- the parts of a zoom's scale are from 1 to 1,000
abbrev pub IsZoomPart : ℕ → Type 0
IsZoomPart n = (1 ≤ n) × (n ≤ 1000)

-- the view with pixels num / den times as long, round the same middle, if that stays in range
abbrev pub zoom : PixelGrid → ℕ → ℕ → Result PixelGrid ViewError
zoom v num den = kept (resized v (pos (scaled_side v.u num den)))
