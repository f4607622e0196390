-- What a project file opens with the data of its layers: the project, its canvases, and what these show at
-- first.
--
-- Source: this project's own.
use Rattle.std.specs.Prelude.{◌≡◌, Bool, true, false, List, map, zip, length, Option, option_map}
use Rattle.cv_model.specs.declared.layer.LayerData.{LayerData}
use Rattle.cv_model.specs.declared.layer.LayerData.TheVariants.{Text, Grid}
use Rattle.cv_model.specs.declared.project.CanvasFile.{CanvasFile}
use Rattle.cv_model.specs.declared.project.CanvasSpec.{CanvasSpec}
use Rattle.cv_model.specs.declared.project.LayerFile.{LayerFile}
use Rattle.cv_model.specs.Edits.{is_over}
use Rattle.cv_model.specs.Layers.{Layer, Opening, contents_of}
use Rattle.cv_model.specs.ProjectFiles.{FileParts, IsInForm, capacity_of, is_grid_source}
use Rattle.cv_model.specs.Views.{PixelGrid, grid_of}

-- the layer of a file with its data
abbrev pub layer_of_file : LayerFile → LayerData → Layer
layer_of_file file contents = record {
  core = record {
    id = file.id;
    mask = file.mask;
    join = file.join;
    style = file.style;
    contents = contents_of contents;
  };
  name = file.name;
  visible = file.visible;
  opacity = file.opacity;
  blend = file.blend;
  scales = file.scales;
}

-- the layers of a file, each with its data, top first
abbrev pub layers_of_file : List LayerFile → List LayerData → List Layer
layers_of_file files contents =
    map (λ (row : LayerFile × LayerData). layer_of_file row.0 row.1) (zip files contents)

-- a canvas of a file: its size, and how many layer images its cache may hold
abbrev pub canvas_of_file : CanvasFile → CanvasSpec
canvas_of_file c = record { w = c.width; h = c.height; capacity = capacity_of c.width c.height c.cache }

-- what a canvas shows at first: the view of its extent, if it has one
abbrev pub first_view : CanvasFile → Option PixelGrid
first_view c = option_map (λ extent. grid_of extent c.width c.height) c.extent

-- what a file opens: a project, and the canvases that show it
abbrev pub opening_of : FileParts → List LayerData → Opening
opening_of file contents = record {
  project = record { background = file.background; layers = layers_of_file file.layers contents };
  canvases = map canvas_of_file file.canvases;
}

-- what its canvases show at first
abbrev pub first_views : FileParts → List (Option PixelGrid)
first_views file = map first_view file.canvases

-- the data is a grid
abbrev pub is_grid_data : LayerData → Bool
is_grid_data (Text table) = false
is_grid_data (Grid grid) = true

-- a project can be opened: its file is in form, each of its layers has data of its source's kind, and no
-- limit is passed
pub record CanOpen (file : FileParts) (contents : List LayerData) : Type 0 where
  pub form : IsInForm file
  pub each : length contents ≡ length file.layers
  pub kinds : map is_grid_data contents ≡ map (λ (layer : LayerFile). is_grid_source layer.source) file.layers
  pub within : is_over (layers_of_file file.layers contents) ≡ false
