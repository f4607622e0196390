-- Edits of what a layer holds, at their layer's place.
use Rattle.std.proofs.Common.{◌≡◌, ◌∙◌, sym, ap, subst, refl, ℕ, ◌+◌, ◌-◌, ◌≤◌, ◌||◌, Bool, true, false, not, List}
use Rattle.std.proofs.Common.{Some, None, arith, map, nat_lt, set}
use Rattle.std.specs.Prelude.{slice_get, position, bytes_eq, is_none}
use Rattle.std.specs.Option.{option_map_or}
use Rattle.std.proofs.lemmas.List.{length-set}
use Rattle.cv_model.specs.declared.edit.Edit.{Edit}
use Rattle.cv_model.specs.declared.edit.Edit.TheVariants.{AddFeature, InsertFeature, RemoveFeature}
use Rattle.cv_model.specs.declared.edit.Edit.TheVariants.{SetGeometry, SetAttribute, SetCell, SetStyle}
use Rattle.cv_model.specs.declared.edit.Edit.TheVariants.{SetMask, SetJoin, AddLayer, RemoveLayer}
use Rattle.cv_model.specs.declared.edit.Edit.TheVariants.{SetOpacity, SetBlend, SetVisible, SetScales}
use Rattle.cv_model.specs.declared.edit.Edit.TheVariants.{MoveLayer, SetBackground}
use Rattle.cv_model.specs.declared.edit.EditError.TheVariants.{UnknownLayer}
use Rattle.cv_model.specs.declared.feature.Feature.{Feature}
use Rattle.cv_model.specs.declared.grid.Cell.{Cell}
use Rattle.cv_model.specs.Grids.{CellGrid}
use Rattle.cv_model.specs.Layers.{Contents, Features, Cells, Core, Layer, has_layer}
use Rattle.cv_model.specs.Edits.{named_layer, touched, step_background, step_layers, change_core, names_too_much}
use Rattle.cv_model.specs.Edits.{lacks_feature, is_wrong_kind, is_duplicate, is_bad_place, is_over}
use Rattle.cv_model.specs.Edits.{contents_at, is_grid, cells_of, with_features, with_cells, with_attribute}
use Rattle.cv_model.specs.Edits.{passes_limit, has_feature, is_uneven, count_features, misses, columns_of}
use Rattle.cv_model.specs.Edits.{misses_cell}
use Rattle.cv_store.specs.Stores.{StoreParts, RevisedLayer, layer_of, has_id, accepted, IsStore}
use Rattle.cv_store.specs.Tallies.{tally_of, totals_of, passes, exchange}
use Rattle.cv_store.specs.Answers.{verdict_in, is_spent, knows}
use Rattle.cv_store.specs.Data.{data_layer, changed, cause, refusal, HasRoom}
use Rattle.cv_store.proofs.MapLemmas.{layer_at, counts_set, part_of}
use Rattle.cv_store.proofs.Limits.{over_is, within, large_set, large_at}
use Rattle.cv_store.proofs.Edited.{contents_here, is_there, changed_here}
use Rattle.cv_store.proofs.Verdicts.{verdict_is}

-- what is known of an edit of what the layer with an id holds
pub record IsData (e : Edit) (layer : ℕ) : Type 0 where
  pub named : named_layer e ≡ Some layer
  pub touches : touched e ≡ Some layer
  pub background : step_background e ≡ None
  pub names : names_too_much e ≡ false
  pub steps : (layers : List Layer)
      → step_layers layers e ≡ change_core layer (λ core. record core { contents = (changed e core.contents) }) layers
  pub local : (layers : List Layer) (over : Bool)
      → cause (lacks_feature layers e) (is_wrong_kind layers e) (is_duplicate layers e) over (is_bad_place layers e)
      ≡ refusal e (contents_at layers layer) over
  pub leaves : (held : Contents) (over : Bool) → refusal e held over ≡ None → over ≡ false
  pub kind : (held : Contents) → is_grid (changed e held) ≡ is_grid held
  pub cells : (held : Contents) → cells_of (changed e held) ≡ cells_of held

cause_open : (a b c d e : Bool) → cause a b c d e ≡ None → d ≡ false
cause_open true b c d e h = absurd cc
cause_open false true c d e h = absurd cc
cause_open false false true d e h = absurd cc
cause_open false false false true e h = absurd cc
cause_open false false false false e h = refl

features_kind : (f : List Feature → List Feature) (held : Contents) → is_grid (with_features f held) ≡ is_grid held
features_kind f (Features columns features) = refl
features_kind f (Cells grid) = refl

features_cells : (f : List Feature → List Feature) (held : Contents) → cells_of (with_features f held) ≡ cells_of held
features_cells f (Features columns features) = refl
features_cells f (Cells grid) = refl

attribute_kind : (id : ℕ) (column value : List ℕ) (held : Contents)
    → is_grid (with_attribute id column value held) ≡ is_grid held
attribute_kind id column value (Features columns features) = refl
attribute_kind id column value (Cells grid) = refl

attribute_cells : (id : ℕ) (column value : List ℕ) (held : Contents)
    → cells_of (with_attribute id column value held) ≡ cells_of held
attribute_cells id column value (Features columns features) = refl
attribute_cells id column value (Cells grid) = refl

cell_kind : (f : CellGrid → List Cell) (held : Contents) → is_grid (with_cells f held) ≡ is_grid held
cell_kind f (Features columns features) = refl
cell_kind f (Cells grid) = refl

cell_cells : (at : CellGrid → ℕ) (cell : Cell) (held : Contents)
    → cells_of (with_cells (λ grid. set grid.cells (at grid) cell) held) ≡ cells_of held
cell_cells at cell (Features columns features) = refl
cell_cells at cell (Cells grid) = length-set grid.cells (at grid) cell

pub data_is : (e : Edit) (layer : ℕ) → data_layer e ≡ Some layer → IsData e layer
data_is (AddFeature l feature) layer h =
    let is : l ≡ layer = cc in
    subst (IsData (AddFeature l feature)) is (record {
      named = refl;
      touches = refl;
      background = refl;
      names = refl;
      steps = λ layers. refl;
      local = λ layers over. refl;
      leaves = λ held over g. cause_open false (is_grid held) (has_feature feature.id held) over (is_uneven feature held) g;
      kind = λ held. features_kind _ held;
      cells = λ held. features_cells _ held;
    })
data_is (InsertFeature l at feature) layer h =
    let is : l ≡ layer = cc in
    subst (IsData (InsertFeature l at feature)) is (record {
      named = refl;
      touches = refl;
      background = refl;
      names = refl;
      steps = λ layers. refl;
      local = λ layers over. refl;
      leaves = λ held over g. cause_open false (is_grid held) (has_feature feature.id held) over
          (nat_lt (count_features held) at || is_uneven feature held) g;
      kind = λ held. features_kind _ held;
      cells = λ held. features_cells _ held;
    })
data_is (RemoveFeature l id) layer h =
    let is : l ≡ layer = cc in
    subst (IsData (RemoveFeature l id)) is (record {
      named = refl;
      touches = refl;
      background = refl;
      names = refl;
      steps = λ layers. refl;
      local = λ layers over. refl;
      leaves = λ held over g. cause_open (misses id held) (is_grid held) false over false g;
      kind = λ held. features_kind _ held;
      cells = λ held. features_cells _ held;
    })
data_is (SetGeometry l id geometry) layer h =
    let is : l ≡ layer = cc in
    subst (IsData (SetGeometry l id geometry)) is (record {
      named = refl;
      touches = refl;
      background = refl;
      names = refl;
      steps = λ layers. refl;
      local = λ layers over. refl;
      leaves = λ held over g. cause_open (misses id held) (is_grid held) false over false g;
      kind = λ held. features_kind _ held;
      cells = λ held. features_cells _ held;
    })
data_is (SetAttribute l id column value) layer h =
    let is : l ≡ layer = cc in
    subst (IsData (SetAttribute l id column value)) is (record {
      named = refl;
      touches = refl;
      background = refl;
      names = refl;
      steps = λ layers. refl;
      local = λ layers over. refl;
      leaves = λ held over g. cause_open (misses id held) (is_grid held) false over
          (is_none (position (bytes_eq column) (columns_of held))) g;
      kind = λ held. attribute_kind id column value held;
      cells = λ held. attribute_cells id column value held;
    })
data_is (SetCell l row col cell) layer h =
    let is : l ≡ layer = cc in
    subst (IsData (SetCell l row col cell)) is (record {
      named = refl;
      touches = refl;
      background = refl;
      names = refl;
      steps = λ layers. refl;
      local = λ layers over. refl;
      leaves = λ held over g. cause_open false (not (is_grid held)) false over (misses_cell row col held) g;
      kind = λ held. cell_kind _ held;
      cells = λ held. cell_cells _ cell held;
    })
data_is (SetStyle l style) layer h = absurd cc
data_is (SetMask l mask) layer h = absurd cc
data_is (SetJoin l join) layer h = absurd cc
data_is (AddLayer place new) layer h = absurd cc
data_is (RemoveLayer l) layer h = absurd cc
data_is (SetOpacity l opacity) layer h = absurd cc
data_is (SetBlend l blend) layer h = absurd cc
data_is (SetVisible l visible) layer h = absurd cc
data_is (SetScales l scales) layer h = absurd cc
data_is (MoveLayer l place) layer h = absurd cc
data_is (SetBackground colour) layer h = absurd cc

-- ---- the limits, where a layer holds other contents

exchanged_sum : (s t u : ℕ) → t ≤ s → (s - t + u) + t ≡ s + u
exchanged_sum s t u h = omega (arith, h)

or_none : (b : Bool) → (b || false) ≡ b
or_none true = refl
or_none false = refl

pub over_exchange : (layers : List Layer) (n : ℕ) (old new : Layer) → is_over layers ≡ false
    → slice_get layers n ≡ Some old → cells_of new.core.contents ≡ cells_of old.core.contents
    → is_over (set layers n new)
    ≡ passes (exchange (totals_of layers) (tally_of old.core.contents) (tally_of new.core.contents))
over_exchange layers n old new h at same =
    let was = within layers h in
    let s = totals_of layers in
    let t = tally_of old.core.contents in
    let u = tally_of new.core.contents in
    let part = part_of s layers n old refl at in
    let totals = counts_set s (exchange s t u) layers n old new refl at (record {
      features = exchanged_sum s.features t.features u.features part.features;
      vertices = exchanged_sum s.vertices t.vertices u.vertices part.vertices;
      values = exchanged_sum s.values t.values u.values part.values;
      cells = exchanged_sum s.cells t.cells u.cells part.cells;
    }) in
    let few = ap (nat_lt 32) (length-set layers n new) ∙ was.few in
    let large = large_set layers n new was.grids (ap (nat_lt 16000000) same ∙ large_at layers n old was.grids at) in
    over_is (set layers n new)
    ∙ (λ i. few i || (passes (sym totals i) || large i))
    ∙ or_none (passes (exchange s t u))

module _ (s : StoreParts) (e : Edit) (layer n : ℕ) (was : IsStore s)
    (place : position (has_id layer) s.layers ≡ Some n) (row : RevisedLayer) (here : slice_get s.layers n ≡ Some row)
    (is : IsData e layer) where
  -- what the layer holds, and what it holds behind the edit
  abbrev pub held : Contents
  held = row.layer.core.contents

  abbrev pub change : Core → Core
  change core = record core { contents = (changed e core.contents) }

  abbrev pub full : Bool
  full = passes (exchange (totals_of (map layer_of s.layers)) (tally_of held) (tally_of (changed e held)))

  pub over_here : is_over (set (map layer_of s.layers) n (record row.layer { core = change row.layer.core })) ≡ full
  over_here = over_exchange (map layer_of s.layers) n row.layer (record row.layer { core = change row.layer.core })
      was.within (layer_at s.layers n row here) (is.cells held)

  pub has_room : HasRoom (record { sums = totals_of (map layer_of s.layers); spent = is_spent s }) held
  has_room = record {
    within = (within (map layer_of s.layers) was.within).counts;
    part = part_of (totals_of (map layer_of s.layers)) (map layer_of s.layers) n row.layer refl
        (layer_at s.layers n row here);
  }

  -- the limit that the verdict asks for
  limit_here : passes_limit (map layer_of s.layers) (accepted s) e ≡ (is_spent s || full)
  limit_here =
      let step = ap is_over (is.steps (map layer_of s.layers) ∙ changed_here s layer n row was place here
      (λ layer. record layer { core = change layer.core })) ∙ over_here in
      (λ i. is_spent s || (step i || is.names i)) ∙ ap (λ b. is_spent s || b) (or_none full)

  pub verdict_here : verdict_in s e ≡ refusal e held (is_spent s || full)
  verdict_here =
      let lacks = ap (λ o. option_map_or (λ id. not (has_layer id (map layer_of s.layers))) o false) is.named
      ∙ ap not (is_there s layer n row was place here) in
      verdict_is s e lacks refl refl refl limit_here refl
      ∙ is.local (map layer_of s.layers) (is_spent s || full)
      ∙ ap (λ k. refusal e k (is_spent s || full)) (contents_here s layer n row was place here)

pub verdict_unknown : (s : StoreParts) (e : Edit) (layer : ℕ) → IsData e layer → knows s layer ≡ false
    → verdict_in s e ≡ Some UnknownLayer
verdict_unknown s e layer is h =
    verdict_is s e (ap (λ o. option_map_or (λ id. not (has_layer id (map layer_of s.layers))) o false) is.named
    ∙ ap not h) refl refl refl refl refl
