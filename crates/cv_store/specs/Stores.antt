-- A store: a project at a version, and a revision for each of its layers.
--
-- Source: this project's own.
use Rattle.std.specs.Prelude.{◌≡◌, ℕ, ◌-◌, ◌≤◌, Bool, false, List, map, find, nat_eq, Option, option_map}
use Rattle.std.specs.List.{IsDistinct, AllByRecursion}
use Rattle.std.specs.Option.{option_map_or}
use Rattle.cv_model.specs.declared.colour.Rgb.{Rgb}
use Rattle.cv_model.specs.declared.layer.LayerFrame.{LayerFrame}
use Rattle.cv_model.specs.Edits.{is_over}
use Rattle.cv_model.specs.Layers.{Core, Layer, Parts, Project, is_layer, core_in, parts, deps_of}
use Rattle.cv_model.specs.Paintings.{Input, Stamp}
use Rattle.cv_layer.specs.Layers.{RevisedCore}

-- a layer, and the version at which it was added or last changed by an edit that touches it
pub record RevisedLayer : Type 0 where
  pub layer : Layer
  pub revision : ℕ

-- a store: the colour below all layers, the layers, top first, and the version
pub record StoreParts : Type 0 where
  pub background : Rgb
  pub layers : List RevisedLayer
  pub version : ℕ

-- the layer alone
abbrev pub layer_of : RevisedLayer → Layer
layer_of row = row.layer

-- its id
abbrev pub id_of : RevisedLayer → ℕ
id_of row = row.layer.core.id

-- its core with its revision
abbrev pub core_of : RevisedLayer → RevisedCore
core_of row = record { core = row.layer.core; revision = row.revision }

-- how it is merged into a picture, with its id
abbrev pub frame_of : Layer → LayerFrame
frame_of layer = record {
  id = layer.core.id;
  visible = layer.visible;
  opacity = layer.opacity;
  blend = layer.blend;
  scales = layer.scales;
}

-- the layer with another core, or merged otherwise
abbrev pub with_core : RevisedCore → RevisedLayer → RevisedLayer
with_core made row = record { layer = record row.layer { core = made.core }; revision = made.revision }

abbrev pub with_frame : LayerFrame → RevisedLayer → RevisedLayer
with_frame frame row = record row {
  layer = record row.layer {
    visible = frame.visible;
    opacity = frame.opacity;
    blend = frame.blend;
    scales = frame.scales;
  };
}

-- a layer has this id
abbrev pub has_id : ℕ → RevisedLayer → Bool
has_id id row = is_layer id row.layer

-- the project of a store
abbrev pub project_of : StoreParts → Project
project_of s = record { background = s.background; layers = map layer_of s.layers }

-- how many edits a store has accepted: its version is 1 at opening and grows by one with each
abbrev pub accepted : StoreParts → ℕ
accepted s = s.version - 1

-- the revision of a layer, and 0 where it isn't there
abbrev pub revision_in : StoreParts → ℕ → ℕ
revision_in s id = option_map_or (λ (row : RevisedLayer). row.revision) (find (has_id id) s.layers) 0

-- the core and the revision of a layer, if it is there
abbrev pub core_found : StoreParts → ℕ → Option RevisedCore
core_found s id = option_map core_of (find (has_id id) s.layers)

-- the stamp of an id: the id with that revision
abbrev pub stamp_in : StoreParts → ℕ → Stamp
stamp_in s id = record { id = id; revision = revision_in s id }

-- the stamps of what a layer of this core depends on, in order
abbrev pub core_stamps : StoreParts → Core → List Stamp
core_stamps s own = map (stamp_in s) (deps_of own)

-- the stamps of a layer, if the project has it
abbrev pub stamps_in : StoreParts → ℕ → Option (List Stamp)
stamps_in s id = option_map (core_stamps s) (core_in (map layer_of s.layers) id)

-- what these parts are painted from
abbrev pub input_from : StoreParts → Parts → Input
input_from s found = record { parts = found; stamps = core_stamps s found.own }

-- what a layer is painted from, if the project has it
abbrev pub input_in : StoreParts → ℕ → Option Input
input_in s id = option_map (input_from s) (parts (project_of s) id)

-- what a store keeps: the layers' ids differ, no limit is passed, and each revision is from 1 to the version
pub record IsStore (s : StoreParts) : Type 0 where
  pub distinct : IsDistinct nat_eq (map id_of s.layers)
  pub within : is_over (map layer_of s.layers) ≡ false
  pub opened : 1 ≤ s.version
  pub revised : AllByRecursion
      (λ (row : RevisedLayer). (1 ≤ row.revision) × (row.revision ≤ s.version)) s.layers
