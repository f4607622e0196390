-- A layer put into a store.
use Rattle.std.specs.Prelude.{◌≡◌, ℕ, ◌≤◌, ◌||◌, Bool, true, false, map, length, insert, nat_lt, nat_le}
use Rattle.std.specs.List.{list_any}
use Rattle.cv_model.specs.declared.layer.NewLayer.{NewLayer}
use Rattle.cv_model.specs.Edits.{fits, is_over, cells_of, columns_of, has_long_names}
use Rattle.cv_model.specs.Layers.{contents_of, layer_of_new}
use Rattle.cv_store.specs.Stores.{StoreParts, layer_of, has_id}
use Rattle.cv_store.specs.Tallies.{totals_of, data_tally, exchange, passes, no_tally}
use Rattle.cv_store.specs.Answers.{is_spent}

-- a limit is passed with a new layer: one of edits, one of counts, one of layers, one of a grid's cells, or
-- one of names and columns
abbrev pub is_over_with : StoreParts → NewLayer → Bool
is_over_with s new =
    (is_spent s
    || passes (exchange (totals_of (map layer_of s.layers)) no_tally (data_tally (contents_of new.contents))))
    || (nat_le 32 (length s.layers)
    || (nat_lt 16000000 (cells_of (contents_of new.contents))
    || has_long_names new.name (columns_of (contents_of new.contents))))

-- a new layer can be put in, so that it stands at a place
pub record CanAdd (s : StoreParts) (place : ℕ) (new : NewLayer) : Type 0 where
  pub calm : is_spent s ≡ false
  pub fresh : list_any (has_id new.id) s.layers ≡ false
  pub fitting : fits new.style (contents_of new.contents) ≡ true
  pub small : is_over (insert (map layer_of s.layers) place (layer_of_new new)) ≡ false
  pub within : place ≤ length s.layers
