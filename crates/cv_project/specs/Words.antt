-- The words of a project file.
--
-- Source of the blend modes' words: W3C Compositing and Blending Level 1; `addition` is this project's own.
use Rattle.std.specs.Prelude.{ℕ, List, [], ◌∷◌, codes}
use Rattle.cv_model.specs.declared.blend.Blend.{Blend}
use Rattle.cv_model.specs.declared.blend.Blend.TheVariants.{Normal, Multiply, Screen, Overlay, Darken}
use Rattle.cv_model.specs.declared.blend.Blend.TheVariants.{Lighten, ColorDodge, ColorBurn, HardLight}
use Rattle.cv_model.specs.declared.blend.Blend.TheVariants.{Difference, Exclusion, Addition}
use Rattle.cv_model.specs.declared.delimiter.Delimiter.{Delimiter}
use Rattle.cv_model.specs.declared.delimiter.Delimiter.TheVariants.{Comma, Semicolon, Tab}
use Rattle.cv_model.specs.declared.ramp.RampKind.{RampKind}
use Rattle.cv_model.specs.declared.ramp.RampKind.TheVariants.{Exact, Discrete, Linear}
use Rattle.cv_model.specs.declared.shape.Shape.{Shape}
use Rattle.cv_model.specs.declared.shape.Shape.TheVariants.{Square, Diamond, Circle}
use Rattle.cv_project.specs.declared.words.SourceKind.{SourceKind}
use Rattle.cv_project.specs.declared.words.SourceKind.TheVariants as source
use Rattle.cv_project.specs.declared.words.StyleKind.{StyleKind}
use Rattle.cv_project.specs.declared.words.StyleKind.TheVariants as style

abbrev pub blend_word : Blend → List ℕ
blend_word Normal = codes "normal"
blend_word Multiply = codes "multiply"
blend_word Screen = codes "screen"
blend_word Overlay = codes "overlay"
blend_word Darken = codes "darken"
blend_word Lighten = codes "lighten"
blend_word ColorDodge = codes "color-dodge"
blend_word ColorBurn = codes "color-burn"
blend_word HardLight = codes "hard-light"
blend_word Difference = codes "difference"
blend_word Exclusion = codes "exclusion"
blend_word Addition = codes "addition"

abbrev pub blends : List Blend
blends =
    Normal ∷ Multiply ∷ Screen ∷ Overlay ∷ Darken ∷ Lighten ∷ ColorDodge ∷ ColorBurn ∷ HardLight
    ∷ Difference ∷ Exclusion
    ∷ Addition ∷ []

abbrev pub delimiter_word : Delimiter → List ℕ
delimiter_word Comma = codes "comma"
delimiter_word Semicolon = codes "semicolon"
delimiter_word Tab = codes "tab"

abbrev pub delimiters : List Delimiter
delimiters = Comma ∷ Semicolon ∷ Tab ∷ []

abbrev pub ramp_word : RampKind → List ℕ
ramp_word Exact = codes "exact"
ramp_word Discrete = codes "discrete"
ramp_word Linear = codes "linear"

abbrev pub ramps : List RampKind
ramps = Exact ∷ Discrete ∷ Linear ∷ []

abbrev pub shape_word : Shape → List ℕ
shape_word Square = codes "square"
shape_word Diamond = codes "diamond"
shape_word Circle = codes "circle"

abbrev pub shapes : List Shape
shapes = Square ∷ Diamond ∷ Circle ∷ []

abbrev pub source_word : SourceKind → List ℕ
source_word source.Text = codes "text"
source_word source.Grid = codes "grid"

abbrev pub sources : List SourceKind
sources = source.Text ∷ source.Grid ∷ []

abbrev pub style_word : StyleKind → List ℕ
style_word style.Single = codes "single"
style_word style.Categorised = codes "categorised"
style_word style.Graduated = codes "graduated"
style_word style.Ramp = codes "ramp"

abbrev pub styles : List StyleKind
styles = style.Single ∷ style.Categorised ∷ style.Graduated ∷ style.Ramp ∷ []
