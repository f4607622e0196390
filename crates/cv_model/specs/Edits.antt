-- Edits: which are refused and why, and what the accepted ones change.
--
-- Source: this project's own.
use Rattle.std.specs.Prelude.{ℕ, suc, ◌+◌, ◌*◌, ◌==◌, nat_lt, nat_le, nat_eq, Bool, true, false, not, ◌&&◌}
use Rattle.std.specs.Prelude.{◌||◌, if◌then◌else◌, List, [], ◌∷◌, ◌++◌, map, filter, find, position, insert}
use Rattle.std.specs.Prelude.{set, length, sum_by, take, fold, bytes_eq, Option, Some, None, option_map}
use Rattle.std.specs.Prelude.{is_none}
use Rattle.std.specs.List.{list_any}
use Rattle.std.specs.Option.{option_map_or}
use Rattle.cv_model.specs.declared.colour.Rgb.{Rgb}
use Rattle.cv_model.specs.declared.edit.Edit.{Edit}
use Rattle.cv_model.specs.declared.edit.Edit.TheVariants.{AddFeature, InsertFeature, RemoveFeature}
use Rattle.cv_model.specs.declared.edit.Edit.TheVariants.{SetGeometry, SetAttribute, SetCell, SetStyle}
use Rattle.cv_model.specs.declared.edit.Edit.TheVariants.{SetMask, SetJoin, AddLayer, RemoveLayer}
use Rattle.cv_model.specs.declared.edit.Edit.TheVariants.{SetOpacity, SetBlend, SetVisible, SetScales}
use Rattle.cv_model.specs.declared.edit.Edit.TheVariants.{MoveLayer, SetBackground}
use Rattle.cv_model.specs.declared.edit.EditError.{EditError}
use Rattle.cv_model.specs.declared.edit.EditError.TheVariants.{UnknownLayer, UnknownFeature, WrongKind}
use Rattle.cv_model.specs.declared.edit.EditError.TheVariants.{DuplicateId, Limit, BadPlace}
use Rattle.cv_model.specs.declared.feature.Feature.{Feature}
use Rattle.cv_model.specs.declared.grid.Cell.{Cell}
use Rattle.cv_model.specs.declared.style.Style.{Style}
use Rattle.cv_model.specs.Geometries.{vertices_of}
use Rattle.cv_model.specs.Grids.{CellGrid}
use Rattle.cv_model.specs.Layers.{Contents, Features, Cells, Core, Layer, Project, is_layer, has_layer}
use Rattle.cv_model.specs.Layers.{core_in, deps, contents_of, layer_of_new}
use Rattle.cv_model.specs.Paintings.{Stamp}
use Rattle.cv_model.specs.ProjectFiles.{is_ramp}

-- ---- what an edit names

-- the layer that an edit names and that must be there
abbrev pub named_layer : Edit → Option ℕ
named_layer (AddFeature layer feature) = Some layer
named_layer (InsertFeature layer at feature) = Some layer
named_layer (RemoveFeature layer id) = Some layer
named_layer (SetGeometry layer id geometry) = Some layer
named_layer (SetAttribute layer id column value) = Some layer
named_layer (SetCell layer row col cell) = Some layer
named_layer (SetStyle layer style) = Some layer
named_layer (SetMask layer mask) = Some layer
named_layer (SetJoin layer join) = Some layer
named_layer (AddLayer place layer) = None
named_layer (RemoveLayer layer) = Some layer
named_layer (SetOpacity layer opacity) = Some layer
named_layer (SetBlend layer blend) = Some layer
named_layer (SetVisible layer visible) = Some layer
named_layer (SetScales layer scales) = Some layer
named_layer (MoveLayer layer place) = Some layer
named_layer (SetBackground colour) = None

-- the layer that a data or layer edit names; a frame edit touches none
abbrev pub touched : Edit → Option ℕ
touched (AddFeature layer feature) = Some layer
touched (InsertFeature layer at feature) = Some layer
touched (RemoveFeature layer id) = Some layer
touched (SetGeometry layer id geometry) = Some layer
touched (SetAttribute layer id column value) = Some layer
touched (SetCell layer row col cell) = Some layer
touched (SetStyle layer style) = Some layer
touched (SetMask layer mask) = Some layer
touched (SetJoin layer join) = Some layer
touched (AddLayer place layer) = Some layer.id
touched (RemoveLayer layer) = Some layer
touched (SetOpacity layer opacity) = None
touched (SetBlend layer blend) = None
touched (SetVisible layer visible) = None
touched (SetScales layer scales) = None
touched (MoveLayer layer place) = None
touched (SetBackground colour) = None

-- an edit touches one of these layers
abbrev pub touches_any : Edit → List ℕ → Bool
touches_any edit ids = option_map_or (λ id. list_any (nat_eq id) ids) (touched edit) false

-- ---- the change

-- a change of the core of the layer with this id
abbrev pub change_core : ℕ → (Core → Core) → List Layer → List Layer
change_core id change layers =
    map (λ (layer : Layer). if is_layer id layer then record layer { core = change layer.core } else layer)
    layers

-- a change of that layer besides its core
abbrev pub change_layer : ℕ → (Layer → Layer) → List Layer → List Layer
change_layer id change layers = map (λ (layer : Layer). if is_layer id layer then change layer else layer)
    layers

-- a change of the features of a text layer; a grid stays
abbrev pub with_features : (List Feature → List Feature) → Contents → Contents
with_features change (Features columns features) = Features columns (change features)
with_features change (Cells grid) = Cells grid

-- a change of the cells of a grid; a text layer stays
abbrev pub with_cells : (CellGrid → List Cell) → Contents → Contents
with_cells change (Features columns features) = Features columns features
with_cells change (Cells grid) = Cells (record grid { cells = (change grid) })

-- the core with another list of features, or of cells
abbrev pub change_features : (List Feature → List Feature) → Core → Core
change_features change core = record core { contents = (with_features change core.contents) }

abbrev pub change_cells : (CellGrid → List Cell) → Core → Core
change_cells change core = record core { contents = (with_cells change core.contents) }

-- a feature has this id
abbrev pub is_feature : ℕ → Feature → Bool
is_feature id feature = feature.id == id

-- a change of the feature with this id
abbrev pub change_feature : ℕ → (Feature → Feature) → List Feature → List Feature
change_feature id change features =
    map (λ (feature : Feature). if is_feature id feature then change feature else feature) features

-- the features without the one of this id
abbrev pub without_feature : ℕ → List Feature → List Feature
without_feature id features = filter (λ feature. not (is_feature id feature)) features

-- the values of a feature with another text in the first column of this name
abbrev pub with_text : List (List ℕ) → List ℕ → List ℕ → List (List ℕ) → List (List ℕ)
with_text columns column value values =
    option_map_or (λ k. set values k value) (position (bytes_eq column) columns) values

-- another text in the first column of this name, of the feature with this id
abbrev pub with_attribute : ℕ → List ℕ → List ℕ → Contents → Contents
with_attribute id column value (Features columns features) =
    Features columns
    (change_feature id
    (λ feature. record feature { values = (with_text columns column value feature.values) }) features)
with_attribute id column value (Cells grid) = Cells grid

-- the layers without the one of this id
abbrev pub without_layer : ℕ → List Layer → List Layer
without_layer id layers = filter (λ layer. not (is_layer id layer)) layers

-- the layer of this id taken out and put in again, so that it stands at the place
abbrev pub moved : ℕ → ℕ → List Layer → List Layer
moved id place layers =
    option_map_or (λ layer. insert (without_layer id layers) place layer) (find (is_layer id) layers) layers

-- what an edit makes of a project's layers
abbrev pub step_layers : List Layer → Edit → List Layer
step_layers layers (AddFeature layer feature) =
    change_core layer (change_features (λ features. features ++ feature ∷ [])) layers
step_layers layers (InsertFeature layer at feature) =
    change_core layer (change_features (λ features. insert features at feature)) layers
step_layers layers (RemoveFeature layer id) = change_core layer (change_features (without_feature id)) layers
step_layers layers (SetGeometry layer id geometry) =
    change_core layer
    (change_features (change_feature id (λ feature. record feature { geometry = geometry }))) layers
step_layers layers (SetAttribute layer id column value) =
    change_core layer (λ core. record core { contents = (with_attribute id column value core.contents) })
    layers
step_layers layers (SetCell layer row col cell) =
    change_core layer (change_cells (λ grid. set grid.cells (row * grid.cols + col) cell)) layers
step_layers layers (SetStyle layer style) = change_core layer (λ core. record core { style = style }) layers
step_layers layers (SetMask layer mask) = change_core layer (λ core. record core { mask = mask }) layers
step_layers layers (SetJoin layer join) = change_core layer (λ core. record core { join = join }) layers
step_layers layers (AddLayer place layer) = insert layers place (layer_of_new layer)
step_layers layers (RemoveLayer layer) = without_layer layer layers
step_layers layers (SetOpacity layer opacity) = change_layer layer (λ l. record l { opacity = opacity })
    layers
step_layers layers (SetBlend layer blend) = change_layer layer (λ l. record l { blend = blend }) layers
step_layers layers (SetVisible layer visible) = change_layer layer (λ l. record l { visible = visible })
    layers
step_layers layers (SetScales layer scales) = change_layer layer (λ l. record l { scales = scales }) layers
step_layers layers (MoveLayer layer place) = moved layer place layers
step_layers layers (SetBackground colour) = layers

-- the background behind an edit
abbrev pub step_background : Edit → Option Rgb
step_background (SetBackground colour) = Some colour
step_background _ = None

-- what an accepted edit makes of a project
abbrev pub step : Project → Edit → Project
step project edit = record {
  background = option_map_or (λ colour. colour) (step_background edit) project.background;
  layers = step_layers project.layers edit;
}

-- the project after the first n of the accepted edits
abbrev pub project_at : Project → List Edit → ℕ → Project
project_at project edits n = fold step project (take n edits)

-- ---- limits

-- the features of contents; a grid has none
abbrev pub features_of : Contents → List Feature
features_of (Features columns features) = features
features_of (Cells grid) = []

-- the vertices of a feature's geometry
abbrev pub feature_vertices : Feature → ℕ
feature_vertices feature = option_map_or vertices_of feature.geometry 0

-- how many cells contents have
abbrev pub cells_of : Contents → ℕ
cells_of (Features columns features) = 0
cells_of (Cells grid) = length grid.cells

-- a sum over the contents of all layers
abbrev pub total : (Contents → ℕ) → List Layer → ℕ
total count layers = sum_by (λ (layer : Layer). count layer.core.contents) layers

-- how many features, how many vertices, and how many attribute values contents have
abbrev pub count_features : Contents → ℕ
count_features contents = length (features_of contents)

abbrev pub count_vertices : Contents → ℕ
count_vertices contents = sum_by feature_vertices (features_of contents)

abbrev pub count_values : Contents → ℕ
count_values contents = sum_by (λ (feature : Feature). length feature.values) (features_of contents)

-- layers pass a limit: 32 of them; 1,000,000 features, 4,000,000 vertices, 16,000,000 attribute values,
-- 64,000,000 cells in all; 16,000,000 cells of one grid
unfoldable pub is_over : List Layer → Bool
is_over layers =
    nat_lt 32 (length layers)
    || (nat_lt 1000000 (total count_features layers)
    || (nat_lt 4000000 (total count_vertices layers)
    || (nat_lt 16000000 (total count_values layers)
    || (nat_lt 64000000 (total cells_of layers)
    || list_any (λ (layer : Layer). nat_lt 16000000 (cells_of layer.core.contents)) layers))))

-- a name is longer than 256 bytes
abbrev pub is_long : List ℕ → Bool
is_long name = nat_lt 256 (length name)

-- the names of the columns of a layer's contents
abbrev pub columns_of : Contents → List (List ℕ)
columns_of (Features columns features) = columns
columns_of (Cells grid) = []

-- a new layer's name is too long, or it has more than 256 attribute columns, or one with too long a name
abbrev pub has_long_names : List ℕ → List (List ℕ) → Bool
has_long_names name columns = is_long name || (nat_lt 256 (length columns) || list_any is_long columns)

-- an edit adds a layer whose names or columns pass a limit
abbrev pub names_too_much : Edit → Bool
names_too_much (AddLayer place layer) = has_long_names layer.name (columns_of (contents_of layer.contents))
names_too_much _ = false

-- the most edits that are accepted
unfoldable pub most_edits : ℕ
most_edits = 4000000000

-- ---- the verdict, where some edits were accepted before

-- a layer holds a grid
abbrev pub is_grid : Contents → Bool
is_grid (Features columns features) = false
is_grid (Cells grid) = true

-- what the layer with this id holds, and nothing where there is none
abbrev pub contents_at : List Layer → ℕ → Contents
contents_at layers id = option_map_or (λ (core : Core). core.contents) (core_in layers id) (Features [] [])

-- the edit names a layer that isn't there
abbrev pub lacks_layer : List Layer → Edit → Bool
lacks_layer layers edit = option_map_or (λ id. not (has_layer id layers)) (named_layer edit) false

-- a layer of features has one with this id
abbrev pub has_feature : ℕ → Contents → Bool
has_feature id contents = list_any (is_feature id) (features_of contents)

-- a text layer hasn't the feature
abbrev pub misses : ℕ → Contents → Bool
misses id contents = not (is_grid contents) && not (has_feature id contents)

-- the edit names a feature that must be there, and its layer, which is a text layer, hasn't it
abbrev pub lacks_feature : List Layer → Edit → Bool
lacks_feature layers (RemoveFeature layer id) = misses id (contents_at layers layer)
lacks_feature layers (SetGeometry layer id geometry) = misses id (contents_at layers layer)
lacks_feature layers (SetAttribute layer id column value) = misses id (contents_at layers layer)
lacks_feature layers _ = false

-- a style fits contents: a ramp a grid, and another one features
abbrev pub fits : Style → Contents → Bool
fits style contents = if is_ramp style then is_grid contents else not (is_grid contents)

-- an edit of features on a grid, one of cells on a text layer, or a style that doesn't fit
abbrev pub is_wrong_kind : List Layer → Edit → Bool
is_wrong_kind layers (AddFeature layer feature) = is_grid (contents_at layers layer)
is_wrong_kind layers (InsertFeature layer at feature) = is_grid (contents_at layers layer)
is_wrong_kind layers (RemoveFeature layer id) = is_grid (contents_at layers layer)
is_wrong_kind layers (SetGeometry layer id geometry) = is_grid (contents_at layers layer)
is_wrong_kind layers (SetAttribute layer id column value) = is_grid (contents_at layers layer)
is_wrong_kind layers (SetCell layer row col cell) = not (is_grid (contents_at layers layer))
is_wrong_kind layers (SetStyle layer style) = not (fits style (contents_at layers layer))
is_wrong_kind layers (AddLayer place layer) = not (fits layer.style (contents_of layer.contents))
is_wrong_kind layers _ = false

-- the new layer's or the new feature's id is taken
abbrev pub is_duplicate : List Layer → Edit → Bool
is_duplicate layers (AddLayer place layer) = has_layer layer.id layers
is_duplicate layers (AddFeature layer feature) = has_feature feature.id (contents_at layers layer)
is_duplicate layers (InsertFeature layer at feature) = has_feature feature.id (contents_at layers layer)
is_duplicate layers _ = false

-- all edits were made, or the project behind the edit would pass a limit, or the edit's own names do
abbrev pub passes_limit : List Layer → ℕ → Edit → Bool
passes_limit layers accepted edit =
    nat_le most_edits accepted || (is_over (step_layers layers edit) || names_too_much edit)

-- a feature has another number of values than a layer has columns
abbrev pub is_uneven : Feature → Contents → Bool
is_uneven feature contents = not (length feature.values == length (columns_of contents))

-- a grid hasn't the cell
abbrev pub misses_cell : ℕ → ℕ → Contents → Bool
misses_cell row col (Features columns features) = true
misses_cell row col (Cells grid) = nat_le grid.rows row || nat_le grid.cols col

-- a place, a row or a column that isn't there, or another number of values than of columns
abbrev pub is_bad_place : List Layer → Edit → Bool
is_bad_place layers (AddFeature layer feature) = is_uneven feature (contents_at layers layer)
is_bad_place layers (InsertFeature layer at feature) =
    nat_lt (count_features (contents_at layers layer)) at || is_uneven feature (contents_at layers layer)
is_bad_place layers (SetAttribute layer id column value) =
    is_none (position (bytes_eq column) (columns_of (contents_at layers layer)))
is_bad_place layers (SetCell layer row col cell) = misses_cell row col (contents_at layers layer)
is_bad_place layers (AddLayer place layer) = nat_lt (length layers) place
is_bad_place layers (MoveLayer layer place) = nat_le (length layers) place
is_bad_place layers _ = false

-- the first cause whose test holds
abbrev pub first_refusal : List (Bool × EditError) → Option EditError
first_refusal tests =
    option_map (λ (test : Bool × EditError). test.1) (find (λ (test : Bool × EditError). test.0) tests)

-- why an edit is refused, or nothing where it is accepted
unfoldable pub verdict : Project → ℕ → Edit → Option EditError
verdict project accepted edit =
    first_refusal
    ((lacks_layer project.layers edit, UnknownLayer)
    ∷ (lacks_feature project.layers edit, UnknownFeature)
    ∷ (is_wrong_kind project.layers edit, WrongKind)
    ∷ (is_duplicate project.layers edit, DuplicateId)
    ∷ (passes_limit project.layers accepted edit, Limit)
    ∷ (is_bad_place project.layers edit, BadPlace) ∷ [])

-- ---- versions, revisions and stamps

-- the version of a store after these accepted edits
abbrev pub version : List Edit → ℕ
version edits = suc (length edits)

-- how many of these edits there are up to the last that touches the layer, or 0 where none does
abbrev pub last_touch : ℕ → List Edit → ℕ
last_touch id [] = 0
last_touch id (edit ∷ rest) =
    if nat_lt 0 (last_touch id rest) then suc (last_touch id rest)
    else if touches_any edit (id ∷ []) then 1
    else 0

-- the revision of a layer after these accepted edits: 0 where it isn't there, else one more than the number
-- of the last edit that touches it, and 1 where none does
abbrev pub revision : Project → List Edit → ℕ → ℕ
revision project edits id = if has_layer id (fold step project edits).layers then suc (last_touch id edits)
    else 0

-- the stamps of a layer after these edits: its dependencies with their revisions, in order
abbrev pub stamps : Project → List Edit → ℕ → List Stamp
stamps project edits id =
    map (λ dep. record { id = dep; revision = revision project edits dep }) (deps (fold step project edits)
    id)
