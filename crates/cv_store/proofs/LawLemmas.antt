-- The laws of stores.
use Rattle.std.proofs.Common.{◌≡◌, ◌∙◌, sym, ap, refl, ℕ, suc, false}
use Rattle.std.proofs.Common.{List, [], ◌∷◌, Option, Some, None, map, ◌||◌}
use Rattle.std.specs.Prelude.{nat_eq, option_map, if◌then◌else◌}
use Rattle.std.specs.List.{list_any}
use Rattle.std.specs.Option.{option_map_or}
use Rattle.cv_model.specs.declared.edit.Edit.{Edit}
use Rattle.cv_model.specs.Layers.{Core, core_in, parts, parts_among, deps_of, has_layer}
use Rattle.cv_model.specs.Paintings.{Input}
use Rattle.cv_model.specs.Edits.{touched, touches_any, step}
use Rattle.cv_model.proofs.EditLemmas.{leaves_first, leaves_rest}
use Rattle.cv_model.proofs.LawLemmas.{untouched_parts_stay}
use Rattle.cv_store.specs.Stores.{StoreParts, layer_of, project_of, revision_in, stamp_in, core_stamps, stamps_in}
use Rattle.cv_store.specs.Stores.{input_from, input_in}
use Rattle.cv_store.specs.Answers.{IsEdited}
use Rattle.cv_store.specs.Laws.{InputStays, StampsStay}

-- an edit that leaves an id touches it not
touches_not : (e : Edit) (q : ℕ) (ids : List ℕ) → touches_any e (q ∷ ids) ≡ false → touches_any e (q ∷ []) ≡ false
touches_not e q ids h = by (touched e) (leaves_first e q ids h)
  where
    by : (o : Option ℕ) → option_map_or (λ id. nat_eq id q) o false ≡ false
        → option_map_or (λ id. list_any (nat_eq id) (q ∷ [])) o false ≡ false
    by None h = refl
    by (Some id) h = ap (λ b. b || false) h

-- the stamps of ids that an edit doesn't touch
stamps_alike : (s t : StoreParts) (e : Edit) (ids : List ℕ) → IsEdited s e t → touches_any e ids ≡ false
    → map (stamp_in t) ids ≡ map (stamp_in s) ids
stamps_alike s t e [] h none = refl
stamps_alike s t e (q ∷ ids) h none =
    let same : revision_in t q ≡ revision_in s q = h.revisions q
    ∙ ap (λ b. if b then (if has_layer q (step (project_of s) e).layers then suc s.version else 0) else
    revision_in s q) (touches_not e q ids none) in
    λ i. record { id = q; revision = same i } ∷ stamps_alike s t e ids h (leaves_rest e q ids none) i

pub input_stays : InputStays
input_stays s t e id h none = by (core_in (project_of s).layers id) refl none
  where
    same : parts (project_of t) id ≡ parts (project_of s) id
    same = ap (λ p. parts p id) h.project ∙ untouched_parts_stay (project_of s) e id none

    by : (o : Option Core) → core_in (project_of s).layers id ≡ o
        → touches_any e (option_map_or deps_of o (id ∷ [])) ≡ false → input_in t id ≡ input_in s id
    by None is none =
        let gone = ap (option_map (parts_among (project_of s).layers)) is in
        ap (option_map (input_from t)) (same ∙ gone) ∙ sym (ap (option_map (input_from s)) gone)
    by (Some own) is none =
        let there = ap (option_map (parts_among (project_of s).layers)) is in
        ap (option_map (input_from t)) (same ∙ there)
        ∙ ap (λ stamps. Some (record { parts = parts_among (project_of s).layers own; stamps = stamps }))
        (stamps_alike s t e (deps_of own) h none)
        ∙ sym (ap (option_map (input_from s)) there)

-- the stamps of an input, and whether there is one
stamps_seen : (s : StoreParts) (id : ℕ) → stamps_in s id ≡ option_map (λ (i : Input). i.stamps) (input_in s id)
stamps_seen s id = by (core_in (map layer_of s.layers) id)
  where
    by : (o : Option Core) → option_map (core_stamps s) o
        ≡ option_map (λ (i : Input). i.stamps) (option_map (input_from s) (option_map (parts_among (map layer_of
        s.layers)) o))
    by None = refl
    by (Some own) = refl

pub stamps_stay : StampsStay
stamps_stay s t e id h none =
    stamps_seen t id ∙ ap (option_map (λ (i : Input). i.stamps)) (input_stays s t e id h none) ∙ sym (stamps_seen s id)
