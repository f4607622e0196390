-- What `quick` reads and opens: one text layer with an opaque fill, over white.
use Rattle.std.specs.Prelude.{ℕ, List, [], ◌∷◌, codes, true, None}
use Rattle.cv_model.specs.declared.blend.Blend.TheVariants.{Normal}
use Rattle.cv_model.specs.declared.colour.Rgb.{Rgb}
use Rattle.cv_model.specs.declared.delimiter.Delimiter.TheVariants.{Comma}
use Rattle.cv_model.specs.declared.layer.LayerData.{LayerData}
use Rattle.cv_model.specs.declared.project.LayerFile.{LayerFile}
use Rattle.cv_model.specs.declared.project.Source.{Source}
use Rattle.cv_model.specs.declared.project.Source.TheVariants.{Text}
use Rattle.cv_model.specs.declared.style.Style.TheVariants.{Single}
use Rattle.cv_model.specs.Layers.{Project}
use Rattle.cv_model.specs.Openings.{opening_of}
use Rattle.cv_model.specs.ProjectFiles.{FileParts}
use Rattle.cv_model.specs.Scales.{all_scales}
use Rattle.cv_model.specs.Symbols.{filled}

-- the source of its layer: a delimited text with commas, whose column `wkt` has the geometries
abbrev pub quick_source : List ℕ → Source
quick_source csv = Text csv Comma (codes "wkt")

-- its layer: visible and opaque, in normal mode, with this fill alone
abbrev pub quick_layer : Rgb → LayerFile
quick_layer fill = record {
  id = 1;
  name = [];
  source = quick_source [];
  visible = true;
  opacity = 255;
  blend = Normal;
  mask = None;
  join = None;
  style = Single (filled fill);
  scales = all_scales;
}

-- its project: that layer over white, and no canvas
abbrev pub quick_file : Rgb → FileParts
quick_file fill = record {
  background = record { r = 255; g = 255; b = 255 };
  canvases = [];
  layers = quick_layer fill ∷ [];
}

-- the project that it opens with the data of its layer
abbrev pub quick_project : Rgb → LayerData → Project
quick_project fill contents = (opening_of (quick_file fill) (contents ∷ [])).project
