-- What the words of each command ask for, as plain records.
use Rattle.std.specs.Prelude.{ℕ, List}
use Rattle.cv_model.specs.declared.colour.Rgb.{Rgb}
use Rattle.cv_model.specs.Views.{PixelGrid}

-- what the words of `quick` ask for: the file to read, the picture to write, its view, and the fill
pub record QuickParts : Type 0 where
  pub csv : List ℕ
  pub out : List ℕ
  pub view : PixelGrid
  pub fill : Rgb

-- what the words of `check` ask for: the project to open
pub record CheckParts : Type 0 where
  pub project : List ℕ

-- what the words of `session` ask for: the project to open, the script to play, and the number of workers as
-- it is written, which is 0
pub record SessionParts : Type 0 where
  pub project : List ℕ
  pub script : List ℕ
  pub number : List ℕ

-- what the words of `paint` ask for: the project to open, the canvas to paint, counted from 0, as it is
-- written and as a number, and the picture to write
pub record PaintParts : Type 0 where
  pub project : List ℕ
  pub number : List ℕ
  pub canvas : ℕ
  pub out : List ℕ
