-- Views that are moved by whole pixels, and what such a move uncovers.
--
-- Source: this project's own.
use Rattle.std.specs.Prelude.{ℕ, ◌-◌, ◌*◌, ◌/◌, ◌%◌, ◌==◌, nat_le, Bool, ◌&&◌, ◌||◌, if◌then◌else◌, ℤ, pos}
use Rattle.std.specs.Prelude.{neg_ℤ, ◌-ℤ◌, int_lt, unsigned_abs, List, [], ◌∷◌, ◌++◌, Option, Some, None}
use Rattle.std.specs.Prelude.{option_map, option_and_then, is_some}
use Rattle.std.specs.Ordering.{int_eq}
use Rattle.cv_model.specs.Views.{PixelGrid, natural}

-- how many whole steps of this length lie in a signed distance, if they fill it
abbrev pub whole_steps : ℕ → ℤ → Option ℤ
whole_steps length distance =
    if unsigned_abs distance % length == 0
    then (if int_lt distance (pos 0)
    then Some (neg_ℤ (pos (unsigned_abs distance / length)))
    else Some (pos (unsigned_abs distance / length)))
    else None

-- two views have pixels of one side and one size
abbrev pub are_alike : PixelGrid → PixelGrid → Bool
are_alike a b = int_eq a.u b.u && (a.w == b.w && a.h == b.h)

-- by how many pixels eastwards and southwards the new view lies from the old one, if these are whole and
-- the views alike
unfoldable pub pan_of : PixelGrid → PixelGrid → Option (ℤ × ℤ)
pan_of before new =
    if are_alike before new
    then option_and_then
    (λ dx. option_map (λ dy. (dx, dy)) (whole_steps (2 * natural before.u) (before.ty2 -ℤ new.ty2)))
    (whole_steps (2 * natural before.u) (new.lx2 -ℤ before.lx2))
    else None

-- the new view is a pan of the old one by whole pixels
abbrev pub is_pan : PixelGrid → PixelGrid → Bool
is_pan before new = is_some (pan_of before new)

-- a rectangle of pixels: its first column and row, and its size
pub record PixelBox : Type 0 where
  pub i : ℕ
  pub j : ℕ
  pub w : ℕ
  pub h : ℕ

-- the columns that a move by dx uncovers, at the right for dx above 0 and at the left below 0
abbrev pub side_strip : ℕ → ℕ → ℤ → List PixelBox
side_strip w h dx =
    if unsigned_abs dx == 0 then []
    else (record {
      i = (if int_lt dx (pos 0) then 0 else w - unsigned_abs dx);
      j = 0;
      w = unsigned_abs dx;
      h = h;
    }) ∷ []

-- of the other columns, the rows that a move by dy uncovers, at the bottom for dy above 0 and at the top
-- below 0
abbrev pub end_strip : ℕ → ℕ → ℤ → ℤ → List PixelBox
end_strip w h dx dy =
    if unsigned_abs dy == 0 then []
    else (record {
      i = (if int_lt dx (pos 0) then unsigned_abs dx else 0);
      j = (if int_lt dy (pos 0) then 0 else h - unsigned_abs dy);
      w = w - unsigned_abs dx;
      h = unsigned_abs dy;
    }) ∷ []

-- what a move by (dx, dy) uncovers of w by h pixels: all, or at most two rectangles that share no pixel
abbrev pub strips : ℕ → ℕ → ℤ → ℤ → List PixelBox
strips w h dx dy =
    if nat_le w (unsigned_abs dx) || nat_le h (unsigned_abs dy)
    then (record { i = 0; j = 0; w = w; h = h }) ∷ []
    else side_strip w h dx ++ end_strip w h dx dy
