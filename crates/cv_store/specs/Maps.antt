-- The layers of a store by their ids, in their order.
use Rattle.std.specs.Prelude.{◌≡◌, ℕ, List, map, nat_eq}
use Rattle.std.specs.List.{IsDistinct}
use Rattle.cv_store.specs.declared.tally.Tally.{Tally}
use Rattle.cv_store.specs.Stores.{RevisedLayer, id_of, layer_of}
use Rattle.cv_store.specs.Tallies.{totals_of}

-- the layers of the entries, in their order
abbrev pub rows_of : List (ℕ × RevisedLayer) → List RevisedLayer
rows_of entries = map (λ (entry : ℕ × RevisedLayer). entry.1) entries

-- what a map of layers keeps: each entry's key is its layer's id, the ids differ, and its counts are those
-- of all layers
pub record IsLayerMap (entries : List (ℕ × RevisedLayer)) (sums : Tally) : Type 0 where
  pub keyed : map (λ (entry : ℕ × RevisedLayer). entry.0) entries ≡ map id_of (rows_of entries)
  pub distinct : IsDistinct nat_eq (map id_of (rows_of entries))
  pub counted : sums ≡ totals_of (map layer_of (rows_of entries))
