-- Runs of a colour laid on a raster.
--
-- Source: this project's own; colours are laid by W3C Compositing and Blending Level 1, source-over.
use Rattle.std.specs.Prelude.{ℕ, ◌≡◌, ◌<◌, ◌≤◌, ◌==◌, nat_le, nat_lt, Bool, ◌&&◌, if◌then◌else◌, List, fold}
use Rattle.std.specs.Prelude.{◌+◌, ◌*◌, slice_index_or, Option, Some, None}
use Rattle.cv_model.specs.declared.colour.Rgba.{Rgba}
use Rattle.cv_model.specs.Colours.{over}
use Rattle.cv_geom.specs.declared.runs.Run.{Run}
use Rattle.cv_geom.specs.Runs.{IsWithin, is_on}

-- what a canvas keeps: its size, and the one colour that it takes, if it takes one alone
pub record CanvasFrame : Type 0 where
  pub width : ℕ
  pub height : ℕ
  pub ink : Option Rgba

-- a run lies on a canvas
abbrev pub LiesOn : CanvasFrame → Run → Type 0
LiesOn frame run = IsWithin frame.width frame.height run

-- a canvas that takes one colour alone takes this one
abbrev pub IsInk : Option Rgba → Rgba → Type 0
IsInk None colour = Unit {0}
IsInk (Some ink) colour = colour ≡ ink

-- pixels with a change of each pixel of a run
abbrev pub changed : {A : Type 0} → (A → A) → (ℕ → ℕ → A) → Run → ℕ → ℕ → A
changed change before run i j = if is_on run i j then change (before i j) else before i j

-- pixels with a colour laid on a run
abbrev pub with_run : Rgba → (ℕ → ℕ → Rgba) → Run → ℕ → ℕ → Rgba
with_run colour before run = changed (over colour) before run

-- pixels with a colour laid on these runs, one after the other
abbrev pub with_runs : Rgba → (ℕ → ℕ → Rgba) → List Run → ℕ → ℕ → Rgba
with_runs colour before runs = fold (with_run colour) before runs

-- the item of a raster of w columns, given row by row, in a column and a row; `outside` beyond it
abbrev pub item_in : {A : Type 0} → A → ℕ → List A → ℕ → ℕ → A
item_in outside w items i j = if nat_lt i w then slice_index_or items (j * w + i) outside else outside
