-- The tree that stands for a project file, table by table: each field that there is, with its default too.
--
-- Source of JSON: RFC 8259.
use Rattle.std.specs.Prelude.{ℕ, ◌||◌, if◌then◌else◌, ℤ, List, [], ◌∷◌, map, codes, Option, Some, None}
use Rattle.std.specs.Prelude.{option_map, is_some}
use Rattle.hex.specs.Hex.{encode_lower}
use Rattle.serde_json.specs.Data.{Data, boolean, number, string, array, object, unsigned, Members}
use Rattle.serde_json.specs.Data.{no_members, put}
use Rattle.serde_json.specs.View.{items_of}
use Rattle.cv_decimal.specs.Written.{written}
use Rattle.cv_model.specs.Markers.{MarkerParts}
use Rattle.cv_model.specs.Pens.{PenParts}
use Rattle.cv_model.specs.Positions.{Rectangle}
use Rattle.cv_model.specs.ProjectFiles.{FileParts}
use Rattle.cv_model.specs.Ramps.{RampParts}
use Rattle.cv_model.specs.Scales.{ScaleBounds}
use Rattle.cv_model.specs.declared.colour.Rgb.{Rgb}
use Rattle.cv_model.specs.declared.colour.Rgba.{Rgba}
use Rattle.cv_model.specs.declared.layer.Join.{Join}
use Rattle.cv_model.specs.declared.project.CanvasFile.{CanvasFile}
use Rattle.cv_model.specs.declared.project.LayerFile.{LayerFile}
use Rattle.cv_model.specs.declared.project.Source.{Source}
use Rattle.cv_model.specs.declared.project.Source.TheVariants.{Text, Grid}
use Rattle.cv_model.specs.declared.ramp.Stop.{Stop}
use Rattle.cv_model.specs.declared.style.Class.{Class}
use Rattle.cv_model.specs.declared.style.Field.{Field}
use Rattle.cv_model.specs.declared.style.Range.{Range}
use Rattle.cv_model.specs.declared.style.Style.{Style}
use Rattle.cv_model.specs.declared.style.Style.TheVariants.{Single, Categorised, Graduated, Ramp}
use Rattle.cv_model.specs.declared.symbol.Symbol.{Symbol}
use Rattle.cv_project.specs.Words.{blend_word, delimiter_word, ramp_word, shape_word}

-- ---- objects and lists

-- the fields of an object, of which those without a value are left out
abbrev pub Fields : Type 0
Fields = List (List ℕ × Option Data)

-- a field that is always written
abbrev pub always : List ℕ → Data → List ℕ × Option Data
always name d = (name, Some d)

-- a field that is left out where there is nothing to write
abbrev pub if_any : {X : Type 0} → List ℕ → (X → Data) → Option X → List ℕ × Option Data
if_any name tree found = (name, option_map tree found)

-- one field more among an object's members, whose names stand in byte order
abbrev pub with_field : List ℕ → Option Data → Members → Members
with_field name None members = members
with_field name (Some d) members = put name d members

-- these fields, one after another, among an object's members
abbrev pub with_fields : Fields → Members → Members
with_fields [] members = members
with_fields (f ∷ rest) members = with_fields rest (with_field f.0 f.1 members)

-- the object of these fields
abbrev pub object_of : Fields → Data
object_of fields = object (with_fields fields no_members)

-- the list of these members
abbrev pub list_tree : {X : Type 0} → (X → Data) → List X → Data
list_tree tree xs = array (items_of (map tree xs))

-- ---- plain values

abbrev pub whole_tree : ℕ → Data
whole_tree n = number (unsigned n)

-- a decimal is a string
abbrev pub decimal_tree : ℤ → Data
decimal_tree z = string (written z)

-- six lower-case digits
abbrev pub background_tree : Rgb → Data
background_tree c = string (encode_lower (c.r ∷ c.g ∷ c.b ∷ []))

-- eight lower-case digits
abbrev pub colour_tree : Rgba → Data
colour_tree c = string (encode_lower (c.r ∷ c.g ∷ c.b ∷ c.a ∷ []))

-- ---- symbols

unfoldable pub pen_fields : PenParts → Fields
pen_fields pen =
    always (codes "colour") (colour_tree pen.colour)
    ∷ always (codes "width") (whole_tree pen.width)
    ∷ []

abbrev pub pen_tree : PenParts → Data
pen_tree pen = object_of (pen_fields pen)

unfoldable pub marker_fields : MarkerParts → Fields
marker_fields marker =
    always (codes "colour") (colour_tree marker.colour)
    ∷ always (codes "shape") (string (shape_word marker.shape))
    ∷ always (codes "size") (whole_tree marker.size)
    ∷ []

abbrev pub marker_tree : MarkerParts → Data
marker_tree marker = object_of (marker_fields marker)

unfoldable pub symbol_fields : Symbol → Fields
symbol_fields symbol =
    if_any (codes "fill") colour_tree symbol.fill
    ∷ if_any (codes "marker") marker_tree symbol.marker
    ∷ if_any (codes "pen") pen_tree symbol.pen
    ∷ []

abbrev pub symbol_tree : Symbol → Data
symbol_tree symbol = object_of (symbol_fields symbol)

-- ---- styles

unfoldable pub class_fields : Class → Fields
class_fields class =
    always (codes "symbol") (symbol_tree class.symbol)
    ∷ always (codes "value") (string class.value)
    ∷ []

abbrev pub class_tree : Class → Data
class_tree class = object_of (class_fields class)

unfoldable pub range_fields : Range → Fields
range_fields range =
    always (codes "lower") (decimal_tree range.lower)
    ∷ always (codes "symbol") (symbol_tree range.symbol)
    ∷ always (codes "upper") (decimal_tree range.upper)
    ∷ []

abbrev pub range_tree : Range → Data
range_tree range = object_of (range_fields range)

unfoldable pub stop_fields : Stop → Fields
stop_fields stop =
    always (codes "colour") (colour_tree stop.colour)
    ∷ always (codes "value") (decimal_tree stop.value)
    ∷ []

abbrev pub stop_tree : Stop → Data
stop_tree stop = object_of (stop_fields stop)

-- the field that names the column of a style
abbrev pub column_field : Field → List ℕ
column_field column = if column.joined then codes "joined" else codes "field"

unfoldable pub single_fields : Symbol → Fields
single_fields symbol =
    always (codes "kind") (string (codes "single"))
    ∷ always (codes "symbol") (symbol_tree symbol)
    ∷ []

unfoldable pub categorised_fields : Field → List Class → Option Symbol → Fields
categorised_fields column classes fallback =
    always (codes "classes") (list_tree class_tree classes)
    ∷ if_any (codes "fallback") symbol_tree fallback
    ∷ always (column_field column) (string column.name)
    ∷ always (codes "kind") (string (codes "categorised"))
    ∷ []

unfoldable pub graduated_fields : Field → List Range → Fields
graduated_fields column classes =
    always (codes "classes") (list_tree range_tree classes)
    ∷ always (column_field column) (string column.name)
    ∷ always (codes "kind") (string (codes "graduated"))
    ∷ []

unfoldable pub ramp_fields : RampParts → Fields
ramp_fields ramp =
    always (codes "kind") (string (codes "ramp"))
    ∷ always (codes "ramp") (string (ramp_word ramp.kind))
    ∷ always (codes "stops") (list_tree stop_tree ramp.stops)
    ∷ []

abbrev pub style_fields : Style → Fields
style_fields (Single symbol) = single_fields symbol
style_fields (Categorised column classes fallback) = categorised_fields column classes fallback
style_fields (Graduated column classes) = graduated_fields column classes
style_fields (Ramp ramp) = ramp_fields ramp

abbrev pub style_tree : Style → Data
style_tree style = object_of (style_fields style)

-- ---- layers

unfoldable pub text_source_fields : List ℕ → List ℕ → List ℕ → Fields
text_source_fields file delimiter geometry =
    always (codes "delimiter") (string delimiter)
    ∷ always (codes "file") (string file)
    ∷ always (codes "geometry") (string geometry)
    ∷ always (codes "kind") (string (codes "text"))
    ∷ []

unfoldable pub grid_source_fields : List ℕ → Fields
grid_source_fields file =
    always (codes "file") (string file)
    ∷ always (codes "kind") (string (codes "grid"))
    ∷ []

abbrev pub source_fields : Source → Fields
source_fields (Text file delimiter geometry) = text_source_fields file (delimiter_word delimiter) geometry
source_fields (Grid file) = grid_source_fields file

abbrev pub source_tree : Source → Data
source_tree source = object_of (source_fields source)

unfoldable pub join_fields : Join → Fields
join_fields join =
    always (codes "key") (string join.key)
    ∷ always (codes "layer") (whole_tree join.layer)
    ∷ always (codes "local") (string join.local)
    ∷ []

abbrev pub join_tree : Join → Data
join_tree join = object_of (join_fields join)

unfoldable pub scales_fields : ScaleBounds → Fields
scales_fields scales =
    if_any (codes "greatest") decimal_tree scales.greatest
    ∷ if_any (codes "least") decimal_tree scales.least
    ∷ []

abbrev pub scales_tree : ScaleBounds → Data
scales_tree scales = object_of (scales_fields scales)

-- scales with a bound
abbrev pub bounded : ScaleBounds → Option ScaleBounds
bounded scales = if is_some scales.least || is_some scales.greatest then Some scales else None

unfoldable pub layer_fields : LayerFile → Fields
layer_fields layer =
    always (codes "blend") (string (blend_word layer.blend))
    ∷ always (codes "id") (whole_tree layer.id)
    ∷ if_any (codes "join") join_tree layer.join
    ∷ if_any (codes "mask") whole_tree layer.mask
    ∷ always (codes "name") (string layer.name)
    ∷ always (codes "opacity") (whole_tree layer.opacity)
    ∷ if_any (codes "scales") scales_tree (bounded layer.scales)
    ∷ always (codes "source") (source_tree layer.source)
    ∷ always (codes "style") (style_tree layer.style)
    ∷ always (codes "visible") (boolean layer.visible)
    ∷ []

abbrev pub layer_tree : LayerFile → Data
layer_tree layer = object_of (layer_fields layer)

-- ---- canvases and the whole

-- xmin, ymin, xmax and ymax
unfoldable pub extent_tree : Rectangle → Data
extent_tree extent = list_tree decimal_tree (extent.xmin ∷ extent.ymin ∷ extent.xmax ∷ extent.ymax ∷ [])

unfoldable pub canvas_fields : CanvasFile → Fields
canvas_fields canvas =
    always (codes "cache") (whole_tree canvas.cache)
    ∷ if_any (codes "extent") extent_tree canvas.extent
    ∷ always (codes "height") (whole_tree canvas.height)
    ∷ always (codes "width") (whole_tree canvas.width)
    ∷ []

abbrev pub canvas_tree : CanvasFile → Data
canvas_tree canvas = object_of (canvas_fields canvas)

unfoldable pub file_fields : FileParts → Fields
file_fields file =
    always (codes "background") (background_tree file.background)
    ∷ always (codes "canvases") (list_tree canvas_tree file.canvases)
    ∷ always (codes "layers") (list_tree layer_tree file.layers)
    ∷ always (codes "version") (whole_tree 2)
    ∷ []

-- the tree of a whole file
unfoldable pub file_tree : FileParts → Data
file_tree file = object_of (file_fields file)
