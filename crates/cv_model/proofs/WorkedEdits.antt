-- Worked verdicts and steps, each by computing it: a small project, each cause of refusal alone, and each
-- before the next.
use Rattle.std.specs.Prelude.{◌≡◌, ℕ, true, pos, List, [], ◌∷◌, Option, Some, None, refl, map}
use Rattle.cv_model.specs.declared.blend.Blend.TheVariants.{Normal}
use Rattle.cv_model.specs.declared.edit.Edit.TheVariants.{AddFeature, InsertFeature, RemoveFeature}
use Rattle.cv_model.specs.declared.edit.Edit.TheVariants.{SetAttribute, SetCell, SetStyle, SetOpacity}
use Rattle.cv_model.specs.declared.edit.Edit.TheVariants.{AddLayer, RemoveLayer, MoveLayer}
use Rattle.cv_model.specs.declared.edit.EditError.TheVariants.{UnknownLayer, UnknownFeature, WrongKind}
use Rattle.cv_model.specs.declared.edit.EditError.TheVariants.{DuplicateId, Limit, BadPlace}
use Rattle.cv_model.specs.declared.feature.Feature.{Feature}
use Rattle.cv_model.specs.declared.grid.Cell.TheVariants as cell
use Rattle.cv_model.specs.declared.layer.LayerData.TheVariants as held
use Rattle.cv_model.specs.declared.layer.NewLayer.{NewLayer}
use Rattle.cv_model.specs.declared.ramp.RampKind.TheVariants.{Exact}
use Rattle.cv_model.specs.declared.style.Style.{Style}
use Rattle.cv_model.specs.declared.style.Style.TheVariants as style
use Rattle.cv_model.specs.Layers.{Contents, Features, Cells, Layer, Project, deps}
use Rattle.cv_model.specs.Scales.{all_scales}
use Rattle.cv_model.specs.Edits.{verdict, step, is_over, most_edits, revision}

abbrev plain : Style
plain = style.Single (record { fill = None; pen = None; marker = None })

abbrev coloured : Style
coloured = style.Ramp (record { kind = Exact; stops = [] })

-- a layer with an id, a mask, a style and contents
abbrev layer : ℕ → Option ℕ → Style → Contents → Layer
layer id mask style contents = record {
  core = record { id = id; mask = mask; join = None; style = style; contents = contents };
  name = [];
  visible = true;
  opacity = 255;
  blend = Normal;
  scales = all_scales;
}

-- a feature with an id and the value `1` in each of so many columns
abbrev feature : ℕ → List (List ℕ) → Feature
feature id values = record { id = id; geometry = None; values = values }

-- a column `a`, features 1 and 2 with a value each
abbrev shops : Contents
shops = Features ((97 ∷ []) ∷ []) (feature 1 ((49 ∷ []) ∷ []) ∷ feature 2 ((50 ∷ []) ∷ []) ∷ [])

-- two columns and one row of cells
abbrev heights : Contents
heights = Cells (record {
  cols = 2;
  rows = 1;
  left2 = pos 0;
  bottom2 = pos 0;
  dx = 1;
  dy = 1;
  cells = cell.Void ∷ cell.Void ∷ [];
})

-- layer 2 above layer 1, which has mask 3, above mask layer 3, above grid 4
abbrev town : Project
town = record {
  background = record { r = 255; g = 255; b = 255 };
  layers = layer 2 None plain shops ∷ layer 1 (Some 3) plain shops ∷ layer 3 None plain shops
      ∷ layer 4 None coloured heights ∷ [];
}

-- a new text layer with an id and a style
abbrev fresh : ℕ → Style → NewLayer
fresh id style = record {
  id = id;
  name = [];
  contents = held.Text (record { columns = []; features = []; notes = [] });
  visible = true;
  opacity = 255;
  blend = Normal;
  mask = None;
  join = None;
  style = style;
  scales = all_scales;
}

-- ---- each cause alone

pub layer_unknown : verdict town 0 (RemoveLayer 9) ≡ Some UnknownLayer
unfolding verdict
layer_unknown = refl

pub feature_unknown : verdict town 0 (RemoveFeature 2 9) ≡ Some UnknownFeature
unfolding verdict
feature_unknown = refl

pub cell_of_a_text_layer : verdict town 0 (SetCell 2 0 0 cell.Void) ≡ Some WrongKind
unfolding verdict
cell_of_a_text_layer = refl

pub feature_of_a_grid : verdict town 0 (RemoveFeature 4 1) ≡ Some WrongKind
unfolding verdict
feature_of_a_grid = refl

pub ramp_of_a_text_layer : verdict town 0 (SetStyle 2 coloured) ≡ Some WrongKind
unfolding verdict
ramp_of_a_text_layer = refl

pub feature_twice : verdict town 0 (AddFeature 2 (feature 1 ((51 ∷ []) ∷ []))) ≡ Some DuplicateId
unfolding verdict
feature_twice = refl

pub layer_twice : verdict town 0 (AddLayer 0 (fresh 3 plain)) ≡ Some DuplicateId
unfolding verdict
layer_twice = refl

pub too_many_edits : verdict town 4000000000 (RemoveFeature 2 1) ≡ Some Limit
unfolding verdict is_over most_edits
too_many_edits = refl

pub place_too_far : verdict town 0 (MoveLayer 2 4) ≡ Some BadPlace
unfolding verdict is_over most_edits
place_too_far = refl

pub value_missing : verdict town 0 (AddFeature 2 (feature 9 [])) ≡ Some BadPlace
unfolding verdict is_over most_edits
value_missing = refl

pub behind_the_last : verdict town 0 (InsertFeature 2 3 (feature 9 ((51 ∷ []) ∷ []))) ≡ Some BadPlace
unfolding verdict is_over most_edits
behind_the_last = refl

pub column_unknown : verdict town 0 (SetAttribute 2 1 (98 ∷ []) []) ≡ Some BadPlace
unfolding verdict is_over most_edits
column_unknown = refl

pub row_too_far : verdict town 0 (SetCell 4 1 0 cell.Void) ≡ Some BadPlace
unfolding verdict is_over most_edits
row_too_far = refl

-- ---- each before the next one

pub layer_before_kind : verdict town 0 (SetStyle 9 coloured) ≡ Some UnknownLayer
unfolding verdict
layer_before_kind = refl

pub feature_before_place : verdict town 0 (SetAttribute 2 9 (98 ∷ []) []) ≡ Some UnknownFeature
unfolding verdict
feature_before_place = refl

pub kind_before_duplicate : verdict town 0 (AddLayer 0 (fresh 3 coloured)) ≡ Some WrongKind
unfolding verdict
kind_before_duplicate = refl

pub duplicate_before_limit : verdict town 4000000000 (AddFeature 2 (feature 1 [])) ≡ Some DuplicateId
unfolding verdict
duplicate_before_limit = refl

pub limit_before_place : verdict town 4000000000 (MoveLayer 2 4) ≡ Some Limit
unfolding verdict is_over most_edits
limit_before_place = refl

-- ---- what is accepted, and what it makes

pub removal_accepted : verdict town 0 (RemoveFeature 2 1) ≡ None
unfolding verdict is_over most_edits
removal_accepted = refl

pub insertion_at_the_end_accepted : verdict town 0 (InsertFeature 2 2 (feature 9 ((51 ∷ []) ∷ []))) ≡ None
unfolding verdict is_over most_edits
insertion_at_the_end_accepted = refl

-- the ids of a project's layers, top first
abbrev ids : Project → List ℕ
ids project = map (λ (l : Layer). l.core.id) project.layers

-- a place counts after the layer is taken out
pub top_layer_to_place_two : ids (step town (MoveLayer 2 2)) ≡ 1 ∷ 3 ∷ 2 ∷ 4 ∷ []
top_layer_to_place_two = refl

pub layer_put_in : ids (step town (AddLayer 1 (fresh 9 plain))) ≡ 2 ∷ 9 ∷ 1 ∷ 3 ∷ 4 ∷ []
layer_put_in = refl

-- ---- dependencies and revisions

pub layer_and_mask : deps town 1 ≡ 1 ∷ 3 ∷ []
layer_and_mask = refl

-- a layer that is taken out has revision 0, and put in again that of the edit; a frame edit leaves it
pub revision_of_the_mask : revision town (RemoveLayer 3 ∷ []) 3 ≡ 0
revision_of_the_mask = refl

pub revision_of_the_mask_again : revision town (RemoveLayer 3 ∷ AddLayer 2 (fresh 3 plain) ∷ SetOpacity 3 9
    ∷ []) 3 ≡ 3
revision_of_the_mask_again = refl

pub revision_at_first : revision town (RemoveLayer 3 ∷ []) 1 ≡ 1
revision_at_first = refl
