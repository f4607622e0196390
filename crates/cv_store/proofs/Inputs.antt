-- What a layer is painted from, by what is found of it.
use Rattle.std.proofs.Common.{◌≡◌, ◌∙◌, sym, ap, subst, refl, ℕ, Bool, true, false, List, [], ◌∷◌, ◌++◌, Option, Some, None}
use Rattle.std.proofs.Common.{map, arith, cond}
use Rattle.std.specs.Prelude.{find, option_map, option_and_then, IfSome}
use Rattle.std.specs.Option.{option_map_or, option_to_list}
use Rattle.std.proofs.lemmas.Bool.Decides.{nat_tests}
use Rattle.cv_model.specs.declared.layer.Join.{Join}
use Rattle.cv_model.specs.Layers.{Layer, is_layer, core_in, parts_among}
use Rattle.cv_model.specs.Paintings.{Stamp}
use Rattle.cv_layer.specs.Layers.{RevisedCore}
use Rattle.cv_layer.specs.Inputs.{input_of, stamps_of, revision_of, IsInput}
use Rattle.cv_store.specs.Stores.{StoreParts, RevisedLayer, layer_of, has_id, core_of, core_found, revision_in}
use Rattle.cv_store.specs.Stores.{stamp_in, core_stamps, input_in, input_from}

-- a core among the layers is that of the row which is found
pub core_row : (q : ℕ) (rows : List RevisedLayer)
    → core_in (map layer_of rows) q ≡ option_map (λ (c : RevisedCore). c.core) (option_map core_of (find (has_id q) rows))
core_row q [] = refl
core_row q (row ∷ rows) = by (has_id q row) (core_row q rows)
  where
    by : (b : Bool) → core_in (map layer_of rows) q ≡ option_map (λ (c : RevisedCore). c.core) (option_map core_of
        (find (has_id q) rows))
        → option_map (λ (layer : Layer). layer.core) (cond b (Some row.layer) (find (is_layer q) (map layer_of rows)))
        ≡ option_map (λ (c : RevisedCore). c.core) (option_map core_of (cond b (Some row) (find (has_id q) rows)))
    by true more = refl
    by false more = more

pub revision_found : (s : StoreParts) (q : ℕ) → revision_in s q ≡ revision_of (core_found s q)
revision_found s q = by (find (has_id q) s.layers)
  where
    by : (o : Option RevisedLayer) → option_map_or (λ (row : RevisedLayer). row.revision) o 0
        ≡ revision_of (option_map core_of o)
    by None = refl
    by (Some row) = refl

-- what is found by an id has it
pub id_found : (q : ℕ) (rows : List RevisedLayer) → IfSome (option_map core_of (find (has_id q) rows)) (λ c. c.core.id ≡ q)
id_found q [] = tt
id_found q (row ∷ rows) = by (has_id q row) refl (id_found q rows)
  where
    by : (b : Bool) → has_id q row ≡ b → IfSome (option_map core_of (find (has_id q) rows)) (λ c. c.core.id ≡ q)
        → IfSome (option_map core_of (cond b (Some row) (find (has_id q) rows))) (λ c. c.core.id ≡ q)
    by true h more = grind (arith, nat_tests, h)
    by false h more = more

pub core_none : (s : StoreParts) (id : ℕ) → core_found s id ≡ None → input_in s id ≡ None
core_none s id h =
    ap (λ o. option_map (input_from s) (option_map (parts_among (map layer_of s.layers)) o)) (core_row id s.layers
    ∙ ap (option_map (λ (c : RevisedCore). c.core)) h)

module _ (s : StoreParts) (own : RevisedCore) where
  abbrev pub mask_in : Option RevisedCore
  mask_in = option_and_then (core_found s) own.core.mask

  abbrev pub join_in : Option RevisedCore
  join_in = option_and_then (λ (join : Join). core_found s join.layer) own.core.join

  mask_core : (o : Option ℕ) → option_and_then (core_in (map layer_of s.layers)) o
      ≡ option_map (λ (c : RevisedCore). c.core) (option_and_then (core_found s) o)
  mask_core None = refl
  mask_core (Some q) = core_row q s.layers

  join_core : (o : Option Join) → option_and_then (λ (join : Join). core_in (map layer_of s.layers) join.layer) o
      ≡ option_map (λ (c : RevisedCore). c.core) (option_and_then (λ (join : Join). core_found s join.layer) o)
  join_core None = refl
  join_core (Some join) = core_row join.layer s.layers

  mask_stamp : (o : Option ℕ) → map (stamp_in s) (option_to_list o)
      ≡ option_to_list (option_map {U = Stamp} (λ id. record {
        id = id;
        revision = revision_of (option_and_then (core_found s) o);
      }) o)
  mask_stamp None = refl
  mask_stamp (Some q) = λ i. record { id = q; revision = revision_found s q i } ∷ []

  join_stamp : (o : Option Join)
      → map (stamp_in s) (option_to_list (option_map (λ (join : Join). join.layer) o))
      ≡ option_to_list (option_map {U = Stamp} (λ (join : Join). record {
        id = join.layer;
        revision = revision_of (option_and_then (λ (join : Join). core_found s join.layer) o);
      }) o)
  join_stamp None = refl
  join_stamp (Some join) = λ i. record { id = join.layer; revision = revision_found s join.layer i } ∷ []

  map_more : (xs ys : List ℕ) → map (stamp_in s) (xs ++ ys) ≡ map (stamp_in s) xs ++ map (stamp_in s) ys
  map_more [] ys = refl
  map_more (x ∷ xs) ys = ap (λ l. stamp_in s x ∷ l) (map_more xs ys)

  stamps_are : revision_in s own.core.id ≡ own.revision → core_stamps s own.core ≡ stamps_of own mask_in join_in
  stamps_are h =
      λ i. record { id = own.core.id; revision = h i }
      ∷ (map_more (option_to_list own.core.mask) (option_to_list (option_map (λ (join : Join). join.layer)
      own.core.join))
      ∙ (λ j. mask_stamp own.core.mask j ++ join_stamp own.core.join j)) i

  -- the input that is made of what is found is that of the layer
  pub input_is : (id : ℕ) → core_found s id ≡ Some own → input_in s id ≡ Some (input_of own mask_in join_in)
  input_is id h =
      let same : own.core.id ≡ id = subst (λ o. IfSome o (λ c. c.core.id ≡ id)) h (id_found id s.layers) in
      let revision = ap (revision_in s) same ∙ revision_found s id ∙ ap revision_of h in
      ap (λ o. option_map (input_from s) (option_map (parts_among (map layer_of s.layers)) o)) (core_row id s.layers
      ∙ ap (option_map (λ (c : RevisedCore). c.core)) h)
      ∙ (λ i. Some (record {
        parts = record { own = own.core; mask = mask_core own.core.mask i; join = join_core own.core.join i };
        stamps = stamps_are revision i;
      }))

  mask_named : (o : Option ℕ) → IfSome (option_map (λ (c : RevisedCore). c.core) (option_and_then (core_found s) o))
      (λ m. o ≡ Some m.id)
  mask_named None = tt
  mask_named (Some q) = by (core_found s q) (id_found q s.layers)
    where
      by : (o : Option RevisedCore) → IfSome o (λ c. c.core.id ≡ q) → IfSome (option_map (λ (c : RevisedCore). c.core) o)
          (λ m. Some q ≡ Some m.id)
      by None h = tt
      by (Some c) h = ap Some (sym h)

  join_named : (o : Option Join) → IfSome (option_map (λ (c : RevisedCore). c.core) (option_and_then (λ (join : Join).
      core_found s join.layer) o)) (λ m. option_map (λ (join : Join). join.layer) o ≡ Some m.id)
  join_named None = tt
  join_named (Some join) = by (core_found s join.layer) (id_found join.layer s.layers)
    where
      by : (o : Option RevisedCore) → IfSome o (λ c. c.core.id ≡ join.layer)
          → IfSome (option_map (λ (c : RevisedCore). c.core) o) (λ m. Some join.layer ≡ Some m.id)
      by None h = tt
      by (Some c) h = ap Some (sym h)

  pub is_input : IsInput (input_of own mask_in join_in)
  is_input = record { mask = mask_named own.core.mask; join = join_named own.core.join }
