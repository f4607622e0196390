-- Table by table: the tree that stands for a part in form is read as that part.
use Rattle.std.proofs.Common.{◌≡◌, ℕ, ◌+◌, ◌≤◌, ◌&&◌, ◌||◌, Bool, true, false, List, [], ◌∷◌, ◌++◌, length, map}
use Rattle.std.proofs.Common.{Option, Some, None, is_some, option_map, Result, Ok, refl, sym, ap, ◌∙◌, arith, codes}
use Rattle.std.proofs.Common.{ℤ, pos, find, bytes_eq, if◌then◌else◌, nat_eq, suc}
use Rattle.std.specs.Prelude.{IfSome, All, int_le, int_lt, ◌≤ℤ◌, ◌<ℤ◌, nat_le, is_ok}
use Rattle.std.specs.Cmp.{nat_eq_equiv}
use Rattle.std.specs.List.{AllByRecursion, IsDistinct, list_any}
use Rattle.std.specs.Option.{option_map_or}
use Rattle.std.proofs.lemmas.Bool.Decides.{nat_tests}
use Rattle.std.proofs.lemmas.Int.{ints}
use Rattle.std.proofs.lemmas.List.{append_assoc}
use Rattle.serde_json.specs.Data.{Data, string, array}
use Rattle.serde_json.specs.View.{items_of}
use Rattle.cv_geom.specs.Views.{is_size, is_spread, is_in_range, view_of}
use Rattle.cv_model.specs.Markers.{MarkerParts}
use Rattle.cv_model.specs.Pens.{PenParts}
use Rattle.cv_model.specs.Positions.{Rectangle, IsCoordinate, IsExtent}
use Rattle.cv_model.specs.ProjectFiles.{FileParts, IsName, IsSize, IsShown, IsCanvas, IsSource, IsJoin, IsRange}
use Rattle.cv_model.specs.ProjectFiles.{IsStyle, IsLayer, IsInForm, is_ramp, is_grid_source}
use Rattle.cv_model.specs.Ramps.{RampParts, Ascends}
use Rattle.cv_model.specs.Scales.{ScaleBounds, AreScales, all_scales}
use Rattle.cv_model.specs.Views.{grid_of}
use Rattle.cv_model.specs.declared.blend.Blend.{Blend}
use Rattle.cv_model.specs.declared.blend.Blend.TheVariants.{Normal, Multiply, Screen, Overlay, Darken}
use Rattle.cv_model.specs.declared.blend.Blend.TheVariants.{Lighten, ColorDodge, ColorBurn, HardLight}
use Rattle.cv_model.specs.declared.blend.Blend.TheVariants.{Difference, Exclusion, Addition}
use Rattle.cv_model.specs.declared.delimiter.Delimiter.{Delimiter}
use Rattle.cv_model.specs.declared.delimiter.Delimiter.TheVariants.{Comma, Semicolon, Tab}
use Rattle.cv_model.specs.declared.layer.Join.{Join}
use Rattle.cv_model.specs.declared.project.CanvasFile.{CanvasFile}
use Rattle.cv_model.specs.declared.project.LayerFile.{LayerFile}
use Rattle.cv_model.specs.declared.project.Source.{Source}
use Rattle.cv_model.specs.declared.project.Source.TheVariants.{Text, Grid}
use Rattle.cv_model.specs.declared.ramp.RampKind.{RampKind}
use Rattle.cv_model.specs.declared.ramp.RampKind.TheVariants.{Exact, Discrete, Linear}
use Rattle.cv_model.specs.declared.ramp.Stop.{Stop}
use Rattle.cv_model.specs.declared.shape.Shape.{Shape}
use Rattle.cv_model.specs.declared.shape.Shape.TheVariants.{Square, Diamond, Circle}
use Rattle.cv_model.specs.declared.style.Class.{Class}
use Rattle.cv_model.specs.declared.style.Field.{Field}
use Rattle.cv_model.specs.declared.style.Range.{Range}
use Rattle.cv_model.specs.declared.style.Style.{Style}
use Rattle.cv_model.specs.declared.style.Style.TheVariants.{Single, Categorised, Graduated, Ramp}
use Rattle.cv_model.specs.declared.symbol.Symbol.{Symbol}
use Rattle.cv_project.specs.declared.refusal.Refusal.{Refusal}
use Rattle.cv_project.specs.declared.words.SourceKind.TheVariants as source
use Rattle.cv_project.specs.declared.words.StyleKind.TheVariants as kind
use Rattle.cv_project.specs.Answers.{◌>>=◌}
use Rattle.cv_project.specs.Kept.{KeptPen, KeptMarker, KeptSymbol, KeptClass, KeptRange, KeptStop, KeptClasses}
use Rattle.cv_project.specs.Kept.{KeptColour, KeptRamp, KeptStyle, KeptJoin, KeptLayer, KeptCanvas, KeptFile}
use Rattle.cv_project.specs.Kinds.{whole_in, text_of, name_of, word_in, coordinate_of, colour_of}
use Rattle.cv_project.specs.Lists.{each, list_of}
use Rattle.cv_project.specs.Nodes.{TreeNode}
use Rattle.cv_project.specs.Symbols.{pen_of, marker_of, symbol_of}
use Rattle.cv_project.specs.Styles.{class_of, range_of, stop_of}
use Rattle.cv_project.specs.Trees.{object_of, list_tree, whole_tree, decimal_tree, colour_tree, pen_fields}
use Rattle.cv_project.specs.Trees.{pen_tree, marker_fields, marker_tree, symbol_fields, symbol_tree}
use Rattle.cv_project.specs.Trees.{class_fields, class_tree, range_fields, range_tree, stop_fields, stop_tree}
use Rattle.cv_project.specs.Words.{blend_word, blends, delimiter_word, delimiters, ramp_word, ramps, shape_word}
use Rattle.cv_project.specs.Words.{shapes}
use Rattle.cv_project.proofs.TreeLemmas.{IsPlain, plain-object}
use Rattle.cv_project.proofs.StandLemmas.{Stands, node_at, object-reads, required-reads, optional-reads}
use Rattle.cv_project.proofs.StandLemmas.{default-reads, others-read, plain-any, if_some, whole_in-stands}
use Rattle.cv_project.proofs.StandLemmas.{word-stands, colour-stands}

-- ---- words

shape-found : (w : Shape) → find (λ x. bytes_eq (shape_word x) (shape_word w)) shapes ≡ Some w
shape-found Square = refl
shape-found Diamond = refl
shape-found Circle = refl

-- ---- symbols

pub pen-stands : (deep : ℕ) (pen : PenParts) → KeptPen pen → Stands pen_of (deep + 1) (pen_tree pen) pen
unfolding pen_of pen_fields
pen-stands deep pen kept =
    let colour = colour-stands deep pen.colour kept.colour in
    let width = whole_in-stands deep 1 64 pen.width kept.pen.least kept.pen.most in
    let fs = pen_fields pen in
    record {
      there = refl;
      reads = λ path. rw (
        object-reads path fs,
        required-reads colour_of deep (codes "colour") path fs (colour_tree pen.colour) pen.colour refl refl colour,
        required-reads (whole_in 1 64) deep (codes "width") path fs (whole_tree pen.width) pen.width refl refl width,
        others-read (codes "colour" ∷ codes "width" ∷ []) path fs refl,
      ) refl;
      plain = plain-object deep fs (colour.plain, (width.plain, tt));
    }

pub marker-stands : (deep : ℕ) (marker : MarkerParts) → KeptMarker marker
    → Stands marker_of (deep + 1) (marker_tree marker) marker
unfolding marker_of marker_fields
marker-stands deep marker kept =
    let colour = colour-stands deep marker.colour kept.colour in
    let shape = word-stands deep shape_word shapes marker.shape (shape-found marker.shape) in
    let size = whole_in-stands deep 1 256 marker.size kept.marker.least kept.marker.most in
    let fs = marker_fields marker in
    record {
      there = refl;
      reads = λ path. rw (
        object-reads path fs,
        required-reads (word_in shape_word shapes) deep (codes "shape") path fs (string (shape_word marker.shape)) marker.shape refl refl shape,
        required-reads colour_of deep (codes "colour") path fs (colour_tree marker.colour) marker.colour refl refl colour,
        required-reads (whole_in 1 256) deep (codes "size") path fs (whole_tree marker.size) marker.size refl refl size,
        others-read (codes "colour" ∷ codes "shape" ∷ codes "size" ∷ []) path fs refl,
      ) refl;
      plain = plain-object deep fs (colour.plain, (shape.plain, (size.plain, tt)));
    }

pub symbol-stands : (deep : ℕ) (symbol : Symbol) → KeptSymbol symbol
    → Stands symbol_of (deep + 1 + 1) (symbol_tree symbol) symbol
unfolding symbol_of symbol_fields
symbol-stands deep symbol kept =
    let fill = if_some symbol.fill (colour-stands (deep + 1)) kept.fill in
    let pen = if_some symbol.pen (pen-stands deep) kept.pen in
    let marker = if_some symbol.marker (marker-stands deep) kept.marker in
    let fs = symbol_fields symbol in
    record {
      there = refl;
      reads = λ path. rw (
        object-reads path fs,
        optional-reads colour_of (deep + 1) (codes "fill") path fs colour_tree symbol.fill refl refl fill,
        optional-reads pen_of (deep + 1) (codes "pen") path fs pen_tree symbol.pen refl refl pen,
        optional-reads marker_of (deep + 1) (codes "marker") path fs marker_tree symbol.marker refl refl marker,
        others-read (codes "fill" ∷ codes "marker" ∷ codes "pen" ∷ []) path fs refl,
      ) refl;
      plain = plain-object (deep + 1) fs (plain-any colour_of (deep + 1) colour_tree symbol.fill fill, (plain-any marker_of (deep + 1) marker_tree symbol.marker marker, (plain-any pen_of (deep + 1) pen_tree symbol.pen pen, tt)));
    }
