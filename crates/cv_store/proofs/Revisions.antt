-- What the stamps of a store are, what equal ones say of inputs, and that revisions never return.
use Rattle.std.proofs.Common.{◌≡◌, ◌∙◌, sym, ap, refl, ℕ, suc, ◌<◌, Bool, true, false}
use Rattle.std.proofs.Common.{List, [], ◌∷◌, ◌++◌, Option, Some, None, arith, map, ◌||◌, take, drop}
use Rattle.std.specs.Prelude.{option_map, if◌then◌else◌, fold, is_some}
use Rattle.std.specs.List.{list_any}
use Rattle.std.specs.Option.{option_map_or}
use Rattle.std.proofs.lemmas.List.{append_assoc}
use Rattle.std.proofs.lemmas.List.Sums.{fold-append}
use Rattle.cv_model.specs.declared.edit.Edit.{Edit}
use Rattle.cv_model.specs.Layers.{Core, Parts, Project, core_in, parts, parts_among, deps, deps_of, has_layer}
use Rattle.cv_model.specs.Paintings.{Input, Stamp}
use Rattle.cv_model.specs.Edits.{step, last_touch, revision, stamps}
use Rattle.cv_store.specs.Stores.{StoreParts, project_of, core_stamps, input_from, input_in}
use Rattle.cv_store.specs.Laws.{IsBehind, StampsAreOfEdits, EqualStampsEqualInputs, LeftRevisionsNeverReturn}
use Rattle.cv_store.proofs.History.{Spare, hits, last_stays, spare_behind, core_spare, any_core, split}
use Rattle.cv_store.proofs.History.{equal_stamps_equal_parts}

-- ---- stamps of a store

-- the stamps of a layer that is there
stamps_there : (p : Project) (edits : List Edit) (s : StoreParts) (id : ℕ) (own : Core) → IsBehind p edits s
    → core_in (project_of s).layers id ≡ Some own → core_stamps s own ≡ stamps p edits id
stamps_there p edits s id own was e =
    let ids : deps_of own ≡ deps (fold step p edits) id = sym (ap (λ o. option_map_or deps_of o (id ∷ [])) e)
    ∙ ap (λ (r : Project). deps r id) was.project_is in
    λ i. map {B = Stamp} (λ q. record { id = q; revision = was.revisions_are q i }) (ids i)

pub stamps_are_of_edits : StampsAreOfEdits
stamps_are_of_edits p edits s id was = by (core_in (project_of s).layers id) refl
  where
    there : Bool → Option (List Stamp)
    there b = if b then Some (stamps p edits id) else None

    by : (o : Option Core) → core_in (project_of s).layers id ≡ o
        → option_map (core_stamps s) (core_in (project_of s).layers id) ≡ there (has_layer id (project_of s).layers)
    by None e =
        ap (option_map (core_stamps s)) e
        ∙ sym (ap there (any_core id (project_of s).layers ∙ ap is_some e))
    by (Some own) e =
        ap (option_map (core_stamps s)) e ∙ ap Some (stamps_there p edits s id own was e)
        ∙ sym (ap there (any_core id (project_of s).layers ∙ ap is_some e))

-- ---- inputs

-- the stamps, or none
abbrev own_of : Option (List Stamp) → List Stamp
own_of None = []
own_of (Some found) = found

-- an input of these stamps and parts
abbrev input_of : List Stamp → Parts → Input
input_of own found = record { parts = found; stamps = own }

-- what a layer that is there is painted from
seen : (s : StoreParts) (id : ℕ) (own : Core) → core_in (project_of s).layers id ≡ Some own
    → input_in s id ≡ option_map (input_of (core_stamps s own)) (parts (project_of s) id)
seen s id own e =
    let found = ap (option_map (parts_among (project_of s).layers)) e in
    ap (option_map (input_from s)) found ∙ sym (ap (option_map (input_of (core_stamps s own))) found)

pub equal_stamps_equal_inputs : EqualStampsEqualInputs
equal_stamps_equal_inputs p edits m n id s t behind_s behind_t h =
    by (core_in (project_of s).layers id) refl (core_in (project_of t).layers id) refl
  where
    by : (a : Option Core) → core_in (project_of s).layers id ≡ a
        → (b : Option Core) → core_in (project_of t).layers id ≡ b → input_in s id ≡ input_in t id
    by None e None f =
        ap (λ o. option_map (input_from s) (option_map (parts_among (project_of s).layers) o)) e
        ∙ sym (ap (λ o. option_map (input_from t) (option_map (parts_among (project_of t).layers) o)) f)
    by None e (Some b) f =
        let gone : None ≡ Some (core_stamps t b) = sym (ap (option_map (core_stamps s)) e) ∙ h
        ∙ ap (option_map (core_stamps t)) f in
        absurd cc
    by (Some a) e None f =
        let gone : Some (core_stamps s a) ≡ None = sym (ap (option_map (core_stamps s)) e) ∙ h
        ∙ ap (option_map (core_stamps t)) f in
        absurd cc
    by (Some a) e (Some b) f =
        let same : core_stamps s a ≡ core_stamps t b = ap own_of (sym (ap (option_map (core_stamps s)) e) ∙ h
        ∙ ap (option_map (core_stamps t)) f) in
        let alike = equal_stamps_equal_parts p edits m n id (sym (stamps_there p (take m edits) s id a behind_s e)
        ∙ same ∙ stamps_there p (take n edits) t id b behind_t f) in
        let found : parts (project_of s) id ≡ parts (project_of t) id = ap (λ (r : Project). parts r id)
        behind_s.project_is ∙ alike ∙ sym (ap (λ (r : Project). parts r id) behind_t.project_is) in
        seen s id a e
        ∙ (λ i. option_map (input_of (same i)) (found i))
        ∙ sym (seen t id b f)

-- ---- revisions that were left

-- where none of these edits touches an id, none of the first ones does
spare_first : (q : ℕ) (ys zs : List Edit) → Spare q (ys ++ zs) → Spare q ys
spare_first q [] zs h = refl
spare_first q (y ∷ ys) zs h = by (hits q y) h (spare_first q ys zs)
  where
    by : (b : Bool) → (b || list_any (hits q) (ys ++ zs)) ≡ false
        → (list_any (hits q) (ys ++ zs) ≡ false → list_any (hits q) ys ≡ false)
        → (b || list_any (hits q) ys) ≡ false
    by true g more = g
    by false g more = more g

-- edits that don't touch an id leave its revision
revision_stays : (p : Project) (xs ys : List Edit) (q : ℕ) → Spare q ys
    → revision p (xs ++ ys) q ≡ revision p xs q
revision_stays p xs ys q h =
    let core : core_in (fold step p (xs ++ ys)).layers q ≡ core_in (fold step p xs).layers q = ap (λ (r : Project).
    core_in r.layers q) (fold-append step p xs ys)
    ∙ core_spare q ys (fold step p xs) h in
    let there : has_layer q (fold step p (xs ++ ys)).layers ≡ has_layer q (fold step p xs).layers = any_core q
    (fold step p (xs ++ ys)).layers
    ∙ ap is_some core
    ∙ sym (any_core q (fold step p xs).layers) in
    let same = last_stays q xs ys h in
    λ i. if there i then suc (same i) else 0

-- and where a revision above 0 is as before, none touched it
spare_since : (p : Project) (xs ys : List Edit) (q : ℕ) → 0 < revision p xs q
    → revision p (xs ++ ys) q ≡ revision p xs q → Spare q ys
spare_since p xs ys q above h =
    by (has_layer q (fold step p (xs ++ ys)).layers) (has_layer q (fold step p xs).layers) above h
  where
    by : (a b : Bool) → 0 < (if b then suc (last_touch q xs) else 0)
        → (if a then suc (last_touch q (xs ++ ys)) else 0) ≡ (if b then suc (last_touch q xs) else 0)
        → Spare q ys
    by a false above h = absurd (omega (arith, above))
    by false true above h = absurd (omega (arith, h))
    by true true above h = spare_behind q xs ys (omega (arith, h))

pub left_revisions_never_return : LeftRevisionsNeverReturn
left_revisions_never_return p edits l m n id lm mn above left back =
    let xs = take l edits in
    let ys = drop l (take m edits) in
    let zs = drop m (take n edits) in
    let middle : xs ++ ys ≡ take m edits = split l m edits lm in
    let all : xs ++ (ys ++ zs) ≡ take n edits = sym (append_assoc xs ys zs) ∙ ap (λ es. es ++ zs) middle
    ∙ split m n edits mn in
    let spare = spare_since p xs (ys ++ zs) id above (ap (λ es. revision p es id) all ∙ back) in
    left (sym (ap (λ es. revision p es id) middle) ∙ revision_stays p xs ys id (spare_first id ys zs spare))
