-- The table of layers.
use Rattle.std.specs.Prelude.{◌≡◌, ℕ, Bool, true, ◌==◌, All, map, nat_eq, if◌then◌else◌, List, [], ◌∷◌}
use Rattle.std.specs.Prelude.{codes, Result, Ok, Err}
use Rattle.std.specs.List.{list_any, IsDistinct}
use Rattle.std.proofs.Common.{arith}
use Rattle.cv_model.specs.ProjectFiles.{IsLayer, is_grid_source}
use Rattle.cv_model.specs.Scales.{ScaleBounds, all_scales}
use Rattle.cv_model.specs.declared.blend.Blend.TheVariants.{Normal}
use Rattle.cv_model.specs.declared.project.LayerFile.{LayerFile}
use Rattle.cv_project.specs.declared.refusal.Refusal.{Refusal}
use Rattle.cv_project.specs.declared.refusal.Refusal.TheVariants.{Duplicate}
use Rattle.cv_project.specs.Answers.{◌>>=◌}
use Rattle.cv_project.specs.Fields.{is_object, required, optional, with_default, no_others}
use Rattle.cv_project.specs.Kinds.{whole_in, id_of, name_of, flag_of, word_in}
use Rattle.cv_project.specs.Nodes.{TreeNode}
use Rattle.cv_project.specs.Sources.{source_of, join_of, scales_of}
use Rattle.cv_project.specs.Styles.{style_of}
use Rattle.cv_project.specs.Words.{blend_word, blends}

-- an id isn't one of an earlier layer
unfoldable pub new_id : List LayerFile → ℕ → Result (Unit {0}) Refusal
new_id before id = if list_any (λ (layer : LayerFile). id == layer.id) before
    then Err (Duplicate id) else Ok tt

-- the scales, which are a field from version 2 on
unfoldable pub versioned_scales : ℕ → TreeNode → Result ScaleBounds Refusal
versioned_scales version node = if version == 1
    then Ok all_scales else with_default all_scales scales_of (codes "scales") node

-- the fields of a layer in each version
unfoldable pub layer_names : ℕ → List (List ℕ)
layer_names version =
    let first =
    codes "blend" ∷ codes "id" ∷ codes "join" ∷ codes "mask" ∷ codes "name" ∷ codes "opacity"
    ∷ codes "source" ∷ codes "style"
    ∷ codes "visible" ∷ [] in
    if version == 1 then first else codes "scales" ∷ first

-- the layer of a node behind those that were read before it
unfoldable pub layer_of : ℕ → List LayerFile → TreeNode → Result LayerFile Refusal
layer_of version before node = do
  _ ← is_object node
  id ← required id_of (codes "id") node
  _ ← new_id before id
  name ← required name_of (codes "name") node
  source ← required source_of (codes "source") node
  visible ← with_default true flag_of (codes "visible") node
  opacity ← with_default 255 (whole_in 0 255) (codes "opacity") node
  blend ← with_default Normal (word_in blend_word blends) (codes "blend") node
  mask ← optional id_of (codes "mask") node
  join ← optional join_of (codes "join") node
  style ← required (style_of (is_grid_source source)) (codes "style") node
  scales ← versioned_scales version node
  _ ← no_others (layer_names version) node
  Ok (record {
    id = id;
    name = name;
    source = source;
    visible = visible;
    opacity = opacity;
    blend = blend;
    mask = mask;
    join = join;
    style = style;
    scales = scales;
  })

-- layers in form whose ids differ
pub record AreLayers (layers : List LayerFile) : Type 0 where
  pub each : All IsLayer layers
  pub distinct : IsDistinct nat_eq (map (λ (layer : LayerFile). layer.id) layers)

-- no layers are so
pub AreLayers-none : AreLayers []
unfolding IsDistinct
AreLayers-none = record { each = λ k d below. absurd (omega arith); distinct = tt }
