-- Terms: where a line crosses the height of one row after another, in whole columns and what is left of one.
--
-- Source: J. E. Bresenham, Algorithm for computer control of a digital plotter, IBM Systems Journal 4, 1965, for
-- lines between any points.
use Rattle.std.specs.Prelude.{ℕ, ◌≡◌, ◌<◌, ◌≤◌, ◌^◌, unsigned_abs, ℤ, pos, neg_ℤ, ◌+ℤ◌, ◌-ℤ◌, ◌*ℤ◌, ◌≤ℤ◌, ◌<ℤ◌}
use Rattle.cv_model.specs.declared.span.Span.{Span}
use Rattle.cv_model.specs.Positions.{Position}
use Rattle.cv_model.specs.Views.{PixelGrid, centre_of}
use Rattle.cv_scan.specs.declared.terms.Place.{Place}
use Rattle.cv_scan.specs.declared.terms.Slope.{Slope}

-- the side of a pixel, in doubled millionths
abbrev pub side_of : PixelGrid → ℤ
side_of v = pos 2 *ℤ v.u

-- how far the centres of column k, which may lie outside of the view, lie east of the lower end of a line from
-- a up to b, times the way up
abbrev pub run_of : PixelGrid → Position → Position → ℤ → ℤ
run_of v a b k = (v.lx2 +ℤ v.u +ℤ k *ℤ side_of v -ℤ a.x) *ℤ (b.y -ℤ a.y)

-- how far the line leads eastwards up to the height of row j, times the way up
abbrev pub rise_of : PixelGrid → Position → Position → ℕ → ℤ
rise_of v a b j = (b.x -ℤ a.x) *ℤ ((centre_of v 0 j).y -ℤ a.y)

-- the first column whose centre in row j doesn't lie left of the line from a up to b: its centre lies less than
-- a pixel east of the line, by what is left over, times the way up
pub record IsPlace (v : PixelGrid) (a b : Position) (j : ℕ) (place : Place) : Type 0 where
  pub run : run_of v a b place.column ≡ rise_of v a b j +ℤ place.over
  pub low : pos 0 ≤ℤ place.over
  pub high : place.over <ℤ (side_of v *ℤ (b.y -ℤ a.y))

-- how many columns a line from a up to b leads eastwards from the height of a row to that of the row below, and
-- the part of a column that is over, times the way up
pub record IsSlope (v : PixelGrid) (a b : Position) (slope : Slope) : Type 0 where
  pub whole : slope.whole ≡ side_of v *ℤ (b.y -ℤ a.y)
  pub moves : slope.part ≡ neg_ℤ ((b.x -ℤ a.x) *ℤ side_of v) -ℤ (slope.columns *ℤ side_of v) *ℤ (b.y -ℤ a.y)
  pub low : pos 0 ≤ℤ slope.part
  pub high : slope.part <ℤ slope.whole
  pub few : unsigned_abs slope.columns ≤ 2 ^ 29

-- a column among some, as near as can be to another number
pub record IsNearest (columns : Span) (k : ℤ) (column : ℕ) : Type 0 where
  pub west : columns.from ≤ column
  pub east : column ≤ columns.end
  pub before : (i : ℕ) → columns.from ≤ i → i < column → pos i <ℤ k
  pub behind : (i : ℕ) → i < columns.end → column ≤ i → k ≤ℤ pos i
