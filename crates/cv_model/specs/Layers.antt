-- A project: its background and its layers.
--
-- Source: in outline the developer documentation of QGIS (`QgsMapSettings`, `QgsMapRendererParallelJob`): layers top first,
-- an image for each, opacity and blend mode at composition. Masks and joins are this project's own.
use Rattle.std.specs.Prelude.{ℕ, Bool, ◌==◌, ◌&&◌, List, [], ◌∷◌, ◌++◌, filter, reverse, find, Option}
use Rattle.std.specs.Prelude.{option_map, option_and_then}
use Rattle.std.specs.List.{list_any}
use Rattle.std.specs.Option.{option_to_list, option_map_or}
use Rattle.cv_model.specs.declared.blend.Blend.{Blend}
use Rattle.cv_model.specs.declared.colour.Rgb.{Rgb}
use Rattle.cv_model.specs.declared.feature.Feature.{Feature}
use Rattle.cv_model.specs.declared.layer.Join.{Join}
use Rattle.cv_model.specs.declared.layer.LayerData.{LayerData}
use Rattle.cv_model.specs.declared.layer.LayerData.TheVariants.{Text, Grid}
use Rattle.cv_model.specs.declared.layer.NewLayer.{NewLayer}
use Rattle.cv_model.specs.declared.project.CanvasSpec.{CanvasSpec}
use Rattle.cv_model.specs.declared.style.Style.{Style}
use Rattle.cv_model.specs.Grids.{CellGrid}
use Rattle.cv_model.specs.Scales.{ScaleBounds, holds_scale}
use Rattle.cv_model.specs.Views.{PixelGrid}

-- what a layer holds: features with the names of their columns, or a grid; the notes of a reader are no
-- part of it
pub data Contents : Type 0 where
  Features : (columns : List (List ℕ)) (features : List Feature) → Contents
  Cells : (grid : CellGrid) → Contents

-- the core of a layer: all of it that its own image depends on
pub record Core : Type 0 where
  pub id : ℕ
  pub mask : Option ℕ
  pub join : Option Join
  pub style : Style
  pub contents : Contents

-- a layer: its core, its name, and how it is merged into a picture
pub record Layer : Type 0 where
  pub core : Core
  pub name : List ℕ
  pub visible : Bool
  pub opacity : ℕ
  pub blend : Blend
  pub scales : ScaleBounds

-- a project: the colour below all layers, and the layers, top first
pub record Project : Type 0 where
  pub background : Rgb
  pub layers : List Layer

-- what is opened: a project, and the canvases that show it
pub record Opening : Type 0 where
  pub project : Project
  pub canvases : List CanvasSpec

-- what a reader's answer holds, without its notes
abbrev pub contents_of : LayerData → Contents
contents_of (Text table) = Features table.columns table.features
contents_of (Grid grid) = Cells grid

-- the layer that a new one becomes
abbrev pub layer_of_new : NewLayer → Layer
layer_of_new n = record {
  core = record {
    id = n.id;
    mask = n.mask;
    join = n.join;
    style = n.style;
    contents = contents_of
        n.contents;
  };
  name = n.name;
  visible = n.visible;
  opacity = n.opacity;
  blend = n.blend;
  scales = n.scales;
}

-- ---- the parts of a layer

-- a layer has this id
abbrev pub is_layer : ℕ → Layer → Bool
is_layer id layer = layer.core.id == id

-- one of these layers has this id
abbrev pub has_layer : ℕ → List Layer → Bool
has_layer id layers = list_any (is_layer id) layers

-- the core of the layer with this id, if there is one
abbrev pub core_in : List Layer → ℕ → Option Core
core_in layers id = option_map (λ layer. layer.core) (find (is_layer id) layers)

-- all that a layer's image is painted from: its own core, and those of its mask layer and of its join layer
-- where these are named and there
pub record Parts : Type 0 where
  pub own : Core
  pub mask : Option Core
  pub join : Option Core

-- the parts of the layer with this core among these layers
abbrev pub parts_among : List Layer → Core → Parts
parts_among layers own = record {
  own = own;
  mask = option_and_then (core_in layers) own.mask;
  join = option_and_then (λ join. core_in layers join.layer) own.join;
}

-- the parts of a project's layer, if it has the layer
abbrev pub parts : Project → ℕ → Option Parts
parts project id = option_map (parts_among project.layers) (core_in project.layers id)

-- the ids that a core depends on: its own, its mask layer's and its join layer's, where named
abbrev pub deps_of : Core → List ℕ
deps_of own = own.id ∷ option_to_list own.mask ++ option_to_list (option_map (λ join. join.layer) own.join)

-- those of a project's layer, and of a layer that isn't there its id alone
abbrev pub deps : Project → ℕ → List ℕ
deps project id = option_map_or deps_of (core_in project.layers id) (id ∷ [])

-- ---- the slots of a picture

-- a layer is a slot at a view: it is visible, and its bounds hold the view's units per pixel
abbrev pub is_slot : PixelGrid → Layer → Bool
is_slot view layer = layer.visible && holds_scale layer.scales view.u

-- the layers that a picture of a view is made of, bottom first
abbrev pub slots : Project → PixelGrid → List Layer
slots project view = reverse (filter (is_slot view) project.layers)
