-- The table of the whole project, and what the bytes of a file say.
use Rattle.std.specs.Prelude.{◌≡◌, ℕ, ◌==◌, ◌||◌, if◌then◌else◌, List, [], ◌∷◌, codes, IsUtf8, Option, Some}
use Rattle.std.specs.Prelude.{None, Result, Ok, Err}
use Rattle.serde_json.specs.Data.{Data}
use Rattle.serde_json.specs.Read.{read}
use Rattle.cv_model.specs.ProjectFiles.{FileParts}
use Rattle.cv_project.specs.declared.refusal.Refusal.{Refusal}
use Rattle.cv_project.specs.declared.refusal.Refusal.TheVariants.{BadVersion}
use Rattle.cv_project.specs.Answers.{◌>>=◌}
use Rattle.cv_project.specs.Canvases.{canvas_of}
use Rattle.cv_project.specs.Fields.{is_object, required, no_others}
use Rattle.cv_project.specs.Kinds.{whole_of, background_of}
use Rattle.cv_project.specs.Layers.{layer_of}
use Rattle.cv_project.specs.Lists.{list_of, each}
use Rattle.cv_project.specs.Nodes.{TreeNode}

-- the versions that there are
unfoldable pub known : ℕ → Result (Unit {0}) Refusal
known version = if version == 1 || version == 2 then Ok tt else Err BadVersion

unfoldable pub project_of : TreeNode → Result FileParts Refusal
project_of node = do
  _ ← is_object node
  version ← required whole_of (codes "version") node
  _ ← known version
  background ← required background_of (codes "background") node
  canvases ← required (list_of 0 4 (each canvas_of)) (codes "canvases") node
  layers ← required (list_of 0 32 (layer_of version)) (codes "layers") node
  _ ← no_others (codes "background" ∷ codes "canvases" ∷ codes "layers" ∷ codes "version" ∷ []) node
  Ok (record { background = background; canvases = canvases; layers = layers })

-- the project of a whole tree
abbrev pub tree_project : Data → Result FileParts Refusal
tree_project d = project_of (record { path = []; value = d })

-- the bytes are JSON with this tree, as `serde_json` reads them
pub record IsTree (bytes : List ℕ) (d : Data) : Type 0 where
  pub utf8 : IsUtf8 bytes
  pub tree : read bytes ≡ Some d

-- the bytes are no JSON that `serde_json` reads
abbrev pub IsNoTree : List ℕ → Type 0
IsNoTree bytes = IsUtf8 bytes → read bytes ≡ None
