-- The ranges of what a header said.
use Rattle.std.specs.Prelude.{ℕ, ◌≤◌, pos, negsuc, ◌≤ℤ◌, IfSome}
use Rattle.cv_model.specs.Positions.{IsCoordinate}
use Rattle.cv_grid.specs.declared.settings.Anchor.{Anchor}
use Rattle.cv_grid.specs.declared.settings.Anchor.TheVariants.{Corner, Centre}
use Rattle.cv_grid.specs.declared.settings.Settings.{Settings}
use Rattle.cv_grid.specs.declared.layout.Layout.{Layout}

-- a cell's first edge or its centre is a coordinate
abbrev pub IsAnchor : Anchor → Type 0
IsAnchor (Corner z) = IsCoordinate z
IsAnchor (Centre z) = IsCoordinate z

-- a side of a cell is some, and at most the largest value
abbrev pub IsSide : ℕ → Type 0
IsSide n = (1 ≤ n) × (n ≤ 1000000000000000)

-- what each word that was said keeps
pub record IsInRange (s : Settings) : Type 0 where
  pub cols : IfSome s.cols (λ n. 1 ≤ n)
  pub rows : IfSome s.rows (λ n. 1 ≤ n)
  pub left : IfSome s.left IsAnchor
  pub bottom : IfSome s.bottom IsAnchor
  pub dx : IfSome s.dx IsSide
  pub dy : IfSome s.dy IsSide

-- what a layout keeps
pub record IsLaidInRange (l : Layout) : Type 0 where
  pub wide : 1 ≤ l.cols
  pub high : 1 ≤ l.rows
  pub dx_in : IsSide l.dx
  pub dy_in : IsSide l.dy
  pub left_in : (negsuc 2999999999999999 ≤ℤ l.left2) × (l.left2 ≤ℤ pos 2000000000000000)
  pub bottom_in : (negsuc 2999999999999999 ≤ℤ l.bottom2) × (l.bottom2 ≤ℤ pos 2000000000000000)
