-- What it says that a layout isn't too large.
use Rattle.std.proofs.Common.{◌≡◌, ℕ, ◌*◌, ◌≤◌, Bool, true, false, ◌||◌, nat_lt, List, length, ℤ, arith, refl}
use Rattle.std.proofs.lemmas.Bool.Decides.{nat_tests}
use Rattle.std.proofs.lemmas.Int.{ints}
use Rattle.cv_model.specs.declared.grid.Cell.{Cell}
use Rattle.cv_model.specs.Grids.{IsEdge, IsGrid}
use Rattle.cv_grid.specs.declared.layout.Layout.{Layout}
use Rattle.cv_grid.specs.Layouts.{far_edge, is_beyond, is_far, is_large}
use Rattle.cv_grid.specs.Ranges.{IsLaidInRange}
use Rattle.cv_grid.specs.Grammar.{grid_with}

-- of two tests neither holds
neither : (a b : Bool) → (a || b) ≡ false → (a ≡ false) × (b ≡ false)
neither false b e = (refl, e)
neither true b e = absurd (cc)

-- an edge that isn't beyond is within the range
edge_in : (z : ℤ) → is_beyond z ≡ false → IsEdge z
edge_in z e = grind (arith, ints)

-- there is room for its cells
pub room_left : (room : ℕ) (l : Layout) → is_large room l ≡ false → l.cols * l.rows ≤ room
room_left room l fits =
    let sizes = neither (nat_lt room (l.cols * l.rows) || is_far l.left2 l.cols l.dx)
    (is_far l.bottom2 l.rows l.dy) fits in
    let few = (neither (nat_lt room (l.cols * l.rows)) (is_far l.left2 l.cols l.dx) sizes.0).0 in
    grind (arith, nat_tests)

-- and with as many cells it is a grid
pub is_grid : (room : ℕ) (l : Layout) (cells : List Cell) → IsLaidInRange l → is_large room l ≡ false
    → length cells ≡ l.cols * l.rows → IsGrid (grid_with l cells)
is_grid room l cells range fits whole =
    let sizes = neither (nat_lt room (l.cols * l.rows) || is_far l.left2 l.cols l.dx)
    (is_far l.bottom2 l.rows l.dy) fits in
    let across = neither (is_beyond l.left2) (is_beyond (far_edge l.left2 l.cols l.dx))
    (neither (nat_lt room (l.cols * l.rows)) (is_far l.left2 l.cols l.dx) sizes.0).1 in
    let up = neither (is_beyond l.bottom2) (is_beyond (far_edge l.bottom2 l.rows l.dy)) sizes.1 in
    record {
      wide = range.wide;
      high = range.high;
      step_east = range.dx_in.0;
      step_north = range.dy_in.0;
      whole = whole;
      left = edge_in l.left2 across.0;
      right = edge_in (far_edge l.left2 l.cols l.dx) across.1;
      bottom = edge_in l.bottom2 up.0;
      top = edge_in (far_edge l.bottom2 l.rows l.dy) up.1;
    }

-- the same of edges that are equal to these
pub is_grid_of : (room : ℕ) (l : Layout) (cells : List Cell) (left bottom : ℤ) → IsLaidInRange l
    → is_large room l ≡ false → length cells ≡ l.cols * l.rows → left ≡ l.left2 → bottom ≡ l.bottom2
    → IsGrid (record {
      cols = l.cols;
      rows = l.rows;
      left2 = left;
      bottom2 = bottom;
      dx = l.dx;
      dy = l.dy;
      cells = cells;
    })
is_grid_of room l cells left bottom range fits whole e f = rw (e, f) (is_grid room l cells range fits whole)
