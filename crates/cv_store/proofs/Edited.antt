-- One store behind an edit of another.
use Rattle.std.proofs.Common.{◌≡◌, ◌∙◌, sym, ap, subst, refl, ℕ, zero, suc, Bool, true, false}
use Rattle.std.proofs.Common.{List, [], ◌∷◌, Option, Some, None, arith, set, map, ◌||◌}
use Rattle.std.specs.Prelude.{insert, remove, slice_get, nat_eq, position, find, is_some, IfSome, if◌then◌else◌}
use Rattle.std.specs.List.{list_any, IsDistinct}
use Rattle.std.specs.Option.{option_map, option_map_or}
use Rattle.std.proofs.lemmas.Bool.Decides.{nat_tests}
use Rattle.std.proofs.lemmas.List.{map-set}
use Rattle.indexmap.proofs.SetLemmas.{map-insert, map-remove}
use Rattle.cv_model.specs.declared.edit.Edit.{Edit}
use Rattle.cv_model.specs.Layers.{Features, Core, Layer, is_layer, has_layer}
use Rattle.cv_model.specs.Edits.{touched, touches_any, step, step_layers, step_background, change_core, change_layer}
use Rattle.cv_model.specs.Edits.{without_layer, moved, contents_at}
use Rattle.cv_store.specs.Stores.{StoreParts, RevisedLayer, layer_of, id_of, has_id, project_of, revision_in, IsStore}
use Rattle.cv_store.specs.Answers.{IsEdited, revision_after}
use Rattle.cv_store.proofs.Lists.{IsAt, at_position, at_within, find_at, key_at, change_at, without_at}
use Rattle.cv_store.proofs.Lists.{any_found, find_lacks, find_set_other, at_set, get_set, find_remove_other}
use Rattle.cv_store.proofs.Lists.{lacks_remove, find_insert_other, find_insert, lacks_key, lacks_any}
use Rattle.cv_store.proofs.MapLemmas.{layer_at}

abbrev pub layer_id : Layer → ℕ
layer_id layer = layer.core.id

-- ---- rows and their layers

pub any_rows : (q : ℕ) (rows : List RevisedLayer) → has_layer q (map layer_of rows) ≡ list_any (has_id q) rows
any_rows q [] = refl
any_rows q (row ∷ rows) = ap (λ b. has_id q row || b) (any_rows q rows)

pub ids_rows : (rows : List RevisedLayer) → map layer_id (map layer_of rows) ≡ map id_of rows
ids_rows [] = refl
ids_rows (row ∷ rows) = ap (λ l. id_of row ∷ l) (ids_rows rows)

pub at_rows : (q : ℕ) (rows : List RevisedLayer) (n : ℕ) → IsAt id_of q rows n
    → IsAt layer_id q (map layer_of rows) n
at_rows q [] n h = absurd h
at_rows q (row ∷ rows) zero h = h
at_rows q (row ∷ rows) (suc n) h = (h.0, at_rows q rows n h.1)

-- ---- an edit that touches a layer, and one that touches none

touch : (e : Edit) (id q : ℕ) → touched e ≡ Some id → touches_any e (q ∷ []) ≡ nat_eq id q
touch e id q h = ap (λ o. option_map_or (λ id. list_any (nat_eq id) (q ∷ [])) o false) h ∙ last (nat_eq id q)
  where
    last : (b : Bool) → (b || false) ≡ b
    last true = refl
    last false = refl

no_touch : (e : Edit) (ids : List ℕ) → touched e ≡ None → touches_any e ids ≡ false
no_touch e ids h = ap (λ o. option_map_or (λ id. list_any (nat_eq id) ids) o false) h

revision_found : (t : StoreParts) (q v : ℕ) → IfSome (find (has_id q) t.layers) (λ row. row.revision ≡ v)
    → revision_in t q ≡ (if has_layer q (map layer_of t.layers) then v else 0)
revision_found t q v h = by (find (has_id q) t.layers) refl h
  where
    by : (o : Option RevisedLayer) → find (has_id q) t.layers ≡ o → IfSome o (λ row. row.revision ≡ v)
        → option_map_or (λ (row : RevisedLayer). row.revision) (find (has_id q) t.layers) 0
        ≡ (if has_layer q (map layer_of t.layers) then v else 0)
    by None e h =
        let none = any_rows q t.layers ∙ any_found id_of q t.layers ∙ ap is_some e in
        ap (λ o. option_map_or (λ (row : RevisedLayer). row.revision) o 0) e
        ∙ sym (ap (λ b. if b then v else 0) none)
    by (Some row) e h =
        let some = any_rows q t.layers ∙ any_found id_of q t.layers ∙ ap is_some e in
        ap (λ o. option_map_or (λ (row : RevisedLayer). row.revision) o 0) e ∙ h
        ∙ sym (ap (λ b. if b then v else 0) some)

project_is : (s t : StoreParts) (e : Edit) → t.background ≡ option_map_or (λ c. c) (step_background e) s.background
    → map layer_of t.layers ≡ step_layers (map layer_of s.layers) e
    → project_of t ≡ step (project_of s) e
project_is s t e background layers = λ i. record { background = background i; layers = layers i }

pub edited_touch : (s t : StoreParts) (e : Edit) (id : ℕ)
    → t.background ≡ option_map_or (λ c. c) (step_background e) s.background
    → map layer_of t.layers ≡ step_layers (map layer_of s.layers) e → t.version ≡ suc s.version
    → touched e ≡ Some id → IfSome (find (has_id id) t.layers) (λ row. row.revision ≡ suc s.version)
    → ((q : ℕ) → nat_eq id q ≡ false → find (has_id q) t.layers ≡ find (has_id q) s.layers) → IsEdited s e t
edited_touch s t e id background layers version is found others = record {
  project = project_is s t e background layers;
  version = version;
  revisions = λ q. by q (nat_eq id q) refl;
}
  where
    by : (q : ℕ) (b : Bool) → nat_eq id q ≡ b → revision_in t q ≡ revision_after s e q
    by q true h =
        let same : id ≡ q = grind (arith, nat_tests, h) in
        revision_found t q (suc s.version) (subst (λ k. IfSome (find (has_id k) t.layers) (λ row. row.revision ≡
        suc s.version)) same found)
        ∙ ap (λ l. if has_layer q l then suc s.version else 0) layers
        ∙ sym (ap (λ b. if b then (if has_layer q (step (project_of s) e).layers then suc s.version else 0) else
        revision_in s q) (touch e id q is ∙ h))
    by q false h =
        ap (λ o. option_map_or (λ (row : RevisedLayer). row.revision) o 0) (others q h)
        ∙ sym (ap (λ b. if b then (if has_layer q (step (project_of s) e).layers then suc s.version else 0) else
        revision_in s q) (touch e id q is ∙ h))

pub edited_frame : (s t : StoreParts) (e : Edit)
    → t.background ≡ option_map_or (λ c. c) (step_background e) s.background
    → map layer_of t.layers ≡ step_layers (map layer_of s.layers) e → t.version ≡ suc s.version
    → touched e ≡ None → ((q : ℕ) → revision_in t q ≡ revision_in s q) → IsEdited s e t
edited_frame s t e background layers version is same = record {
  project = project_is s t e background layers;
  version = version;
  revisions = λ q.
      same q
      ∙ sym (ap (λ b. if b then (if has_layer q (step (project_of s) e).layers then suc s.version else 0) else
      revision_in s q) (no_touch e (q ∷ []) is));
}

abbrev pub with_rows : StoreParts → List RevisedLayer → StoreParts
with_rows s rows = record { background = s.background; layers = rows; version = suc s.version }

background_stays : (s : StoreParts) (e : Edit) → step_background e ≡ None
    → s.background ≡ option_map_or (λ c. c) (step_background e) s.background
background_stays s e h = sym (ap (λ o. option_map_or (λ c. c) o s.background) h)

-- ---- a change at the place of a layer

module _ (s : StoreParts) (id n : ℕ) (row : RevisedLayer) (was : IsStore s)
    (place : position (has_id id) s.layers ≡ Some n) (here : slice_get s.layers n ≡ Some row) where
  at_here : IsAt id_of id s.layers n
  at_here = at_position id_of id s.layers n place

  is_id : id_of row ≡ id
  is_id = key_at id_of id s.layers n row at_here here

  pub contents_here : contents_at (map layer_of s.layers) id ≡ row.layer.core.contents
  contents_here = ap (λ o. option_map_or (λ (core : Core). core.contents) (option_map (λ (layer : Layer). layer.core)
      o) (Features [] [])) (find_at layer_id id (map layer_of s.layers) n row.layer (at_rows id s.layers n at_here) (layer_at s.layers n row
      here))

  pub is_there : has_layer id (map layer_of s.layers) ≡ true
  is_there = any_rows id s.layers ∙ any_found id_of id s.layers ∙ ap is_some (find_at id_of id s.layers n row at_here here)

  pub changed_here : (f : Layer → Layer)
      → map (λ (layer : Layer). if is_layer id layer then f layer else layer) (map layer_of s.layers)
      ≡ set (map layer_of s.layers) n (f row.layer)
  changed_here f = change_at layer_id id f (map layer_of s.layers) n row.layer (subst (IsDistinct nat_eq) (sym
      (ids_rows s.layers)) was.distinct) (at_rows id s.layers n at_here) (layer_at s.layers n row here)

  new_found : (new : RevisedLayer) → id_of new ≡ id_of row → find (has_id id) (set s.layers n new) ≡ Some new
  new_found new same = find_at id_of id (set s.layers n new) n new (at_set id_of id s.layers n new at_here (same ∙ is_id))
      (get_set id_of s.layers n new (at_within id_of id s.layers n at_here))

  others_found : (new : RevisedLayer) → id_of new ≡ id_of row → (q : ℕ) → nat_eq id q ≡ false
      → find (has_id q) (set s.layers n new) ≡ find (has_id q) s.layers
  others_found new same q other = find_set_other id_of q s.layers n row new here same (ap (λ k. nat_eq k q) is_id
      ∙ other)

  pub without_here : without_layer id (map layer_of s.layers) ≡ remove (map layer_of s.layers) n
  without_here = without_at layer_id id (map layer_of s.layers) n (subst (IsDistinct nat_eq) (sym (ids_rows s.layers))
      was.distinct) (at_rows id s.layers n at_here)

  pub moved_here : (to : ℕ) → moved id to (map layer_of s.layers)
      ≡ insert (remove (map layer_of s.layers) n) to row.layer
  moved_here to =
      ap (λ o. option_map_or (λ (layer : Layer). insert (without_layer id (map layer_of s.layers)) to layer) o (map
      layer_of s.layers)) (find_at layer_id id (map layer_of s.layers) n row.layer (at_rows id s.layers n at_here)
      (layer_at s.layers n row here))
      ∙ ap (λ l. insert l to row.layer) without_here

module _ (s : StoreParts) (e : Edit) (id n : ℕ) (row : RevisedLayer) (was : IsStore s)
    (place : position (has_id id) s.layers ≡ Some n) (here : slice_get s.layers n ≡ Some row) where
  -- another core at the next version
  pub core_edited : (f : Core → Core) (new : RevisedLayer)
      → new.layer ≡ record row.layer { core = f row.layer.core } → (f row.layer.core).id ≡ row.layer.core.id
      → new.revision ≡ suc s.version → touched e ≡ Some id → step_background e ≡ None
      → step_layers (map layer_of s.layers) e ≡ change_core id f (map layer_of s.layers)
      → IsEdited s e (with_rows s (set s.layers n new))
  core_edited f new is keeps revised touches background step_is =
      let same : id_of new ≡ id_of row = ap layer_id is ∙ keeps in
      edited_touch s (with_rows s (set s.layers n new)) e id (background_stays s e background)
      (map-set layer_of s.layers n new ∙ ap (set (map layer_of s.layers) n) is
      ∙ sym (step_is ∙ (changed_here s id n row was place here) (λ layer. record layer { core = f layer.core }))) refl touches
      (subst (λ o. IfSome o (λ r. r.revision ≡ suc s.version)) (sym ((new_found s id n row was place here) new same)) revised)
      ((others_found s id n row was place here) new same)

  -- another frame
  pub frame_edited : (g : Layer → Layer) (new : RevisedLayer) → new.layer ≡ g row.layer
      → (g row.layer).core ≡ row.layer.core → new.revision ≡ row.revision → touched e ≡ None
      → step_background e ≡ None → step_layers (map layer_of s.layers) e ≡ change_layer id g (map layer_of s.layers)
      → IsEdited s e (with_rows s (set s.layers n new))
  frame_edited g new is keeps revised touches background step_is =
      let same : id_of new ≡ id_of row = ap layer_id is ∙ ap (λ (core : Core). core.id) keeps in
      edited_frame s (with_rows s (set s.layers n new)) e (background_stays s e background)
      (map-set layer_of s.layers n new ∙ ap (set (map layer_of s.layers) n) is
      ∙ sym (step_is ∙ (changed_here s id n row was place here) g)) refl touches (λ q. by same q (nat_eq id q) refl)
    where
      by : id_of new ≡ id_of row → (q : ℕ) (b : Bool) → nat_eq id q ≡ b
          → revision_in (with_rows s (set s.layers n new)) q ≡ revision_in s q
      by same q true h =
          let k : id ≡ q = grind (arith, nat_tests, h) in
          ap (λ o. option_map_or (λ (r : RevisedLayer). r.revision) o 0) (ap (λ k. find (has_id k) (set s.layers n new))
          (sym k) ∙ (new_found s id n row was place here) new same)
          ∙ revised
          ∙ sym (ap (λ o. option_map_or (λ (r : RevisedLayer). r.revision) o 0) (ap (λ k. find (has_id k) s.layers)
          (sym k) ∙ find_at id_of id s.layers n row (at_here s id n row was place here) here))
      by same q false h = ap (λ o. option_map_or (λ (r : RevisedLayer). r.revision) o 0) ((others_found s id n row was place here) new same q h)

  pub removed_edited : touched e ≡ Some id → step_background e ≡ None
      → step_layers (map layer_of s.layers) e ≡ without_layer id (map layer_of s.layers)
      → IsEdited s e (with_rows s (remove s.layers n))
  removed_edited touches background step_is =
      edited_touch s (with_rows s (remove s.layers n)) e id (background_stays s e background)
      (map-remove layer_of s.layers n ∙ sym (step_is ∙ (without_here s id n row was place here))) refl touches
      (subst (λ o. IfSome o (λ r. r.revision ≡ suc s.version)) (sym (find_lacks id_of id (remove s.layers n)
      (lacks_remove id_of id s.layers n was.distinct (at_here s id n row was place here)))) tt)
      (λ q other. find_remove_other id_of q s.layers n row here (ap (λ k. nat_eq k q) (is_id s id n row was place here) ∙ other))

  -- at another place
  pub moved_edited : (to : ℕ) → touched e ≡ None → step_background e ≡ None
      → step_layers (map layer_of s.layers) e ≡ moved id to (map layer_of s.layers)
      → IsEdited s e (with_rows s (insert (remove s.layers n) to row))
  moved_edited to touches background step_is =
      let found = find_at layer_id id (map layer_of s.layers) n row.layer (at_rows id s.layers n (at_here s id n row was place here)) (layer_at s.layers
      n row here) in
      edited_frame s (with_rows s (insert (remove s.layers n) to row)) e (background_stays s e background)
      (map-insert layer_of (remove s.layers n) to row
      ∙ ap (λ l. insert l to row.layer) (map-remove layer_of s.layers n ∙ sym (without_here s id n row was place here))
      ∙ sym (step_is ∙ ap (λ o. option_map_or (λ (layer : Layer). insert (without_layer id (map layer_of s.layers)) to
      layer) o (map layer_of s.layers)) found)) refl touches (λ q. by q (nat_eq id q) refl)
    where
      by : (q : ℕ) (b : Bool) → nat_eq id q ≡ b
          → revision_in (with_rows s (insert (remove s.layers n) to row)) q ≡ revision_in s q
      by q true h =
          let k : id_of row ≡ q = (is_id s id n row was place here) ∙ grind (arith, nat_tests, h) in
          let own : has_id (id_of row) row ≡ true = grind (arith, nat_tests) in
          ap (λ o. option_map_or (λ (r : RevisedLayer). r.revision) o 0)
          (ap (λ k. find (has_id k) (insert (remove s.layers n) to row)) (sym k)
          ∙ find_insert id_of (id_of row) (remove s.layers n) to row (lacks_key id_of s.layers n row was.distinct here)
          own
          ∙ sym (ap (λ k. find (has_id k) s.layers) (sym (k) ∙ (is_id s id n row was place here)) ∙ find_at id_of id s.layers n row (at_here s id n row was place here) here))
      by q false h =
          let other = ap (λ k. nat_eq k q) (is_id s id n row was place here) ∙ h in
          ap (λ o. option_map_or (λ (r : RevisedLayer). r.revision) o 0)
          (find_insert_other id_of q (remove s.layers n) to row other
          ∙ find_remove_other id_of q s.layers n row here other)

-- a layer of a new id
pub added_edited : (s : StoreParts) (e : Edit) (n : ℕ) (new : RevisedLayer)
    → list_any (has_id (id_of new)) s.layers ≡ false → new.revision ≡ suc s.version → touched e ≡ Some (id_of new)
    → step_background e ≡ None → step_layers (map layer_of s.layers) e ≡ insert (map layer_of s.layers) n new.layer
    → IsEdited s e (with_rows s (insert s.layers n new))
added_edited s e n new fresh revised touches background step_is =
    let own : has_id (id_of new) new ≡ true = grind (arith, nat_tests) in
    edited_touch s (with_rows s (insert s.layers n new)) e (id_of new) (background_stays s e background)
    (map-insert layer_of s.layers n new ∙ sym step_is) refl touches
    (subst (λ o. IfSome o (λ r. r.revision ≡ suc s.version)) (sym (find_insert id_of (id_of new) s.layers n new
    (lacks_any id_of (id_of new) s.layers fresh) own)) revised)
    (λ q other. find_insert_other id_of q s.layers n new other)
