-- Rectangles of a view's pixels, as views of their own.
--
-- Source: this project's own.
use Rattle.std.specs.Prelude.{◌+◌, ◌*◌, ◌≤◌, pos, ◌+ℤ◌, ◌-ℤ◌, ◌*ℤ◌, Some, None, IfSome}
use Rattle.cv_model.specs.Views.{PixelGrid}
use Rattle.cv_layer.specs.declared.strips.Rect.{Rect}
use Rattle.cv_layer.specs.Strips.{StripPair}

-- a rectangle lies in a view
pub record LiesInView (view : PixelGrid) (r : Rect) : Type 0 where
  pub columns : r.i + r.w ≤ view.w
  pub rows : r.j + r.h ≤ view.h

-- strips lie in a view
pub record LieInView (view : PixelGrid) (s : StripPair) : Type 0 where
  pub first : IfSome s.first (LiesInView view)
  pub second : IfSome s.second (LiesInView view)

-- the view whose pixels are those of a rectangle of another one
abbrev pub window_of : PixelGrid → Rect → PixelGrid
window_of view r = record {
  lx2 = view.lx2 +ℤ pos (2 * r.i) *ℤ view.u;
  ty2 = view.ty2 -ℤ pos (2 * r.j) *ℤ view.u;
  u = view.u;
  w = r.w;
  h = r.h;
}

-- the one rectangle of all pixels of a view
abbrev pub whole_strips : PixelGrid → StripPair
whole_strips view = record { first = Some (record { i = 0; j = 0; w = view.w; h = view.h }); second = None }
