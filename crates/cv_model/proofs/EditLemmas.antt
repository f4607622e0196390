-- What an edit leaves: the cores of all layers but the one that it touches.
use Rattle.std.proofs.Common.{◌≡◌, ◌∙◌, sym, ap, refl, ℕ, ◌==◌, Bool, true, false, not, cond, ◌||◌, List}
use Rattle.std.proofs.Common.{[], ◌∷◌, take, drop, Option, Some, None, arith}
use Rattle.std.specs.Prelude.{nat_eq, find, insert, option_map, if◌then◌else◌}
use Rattle.std.specs.List.{list_any}
use Rattle.std.specs.Option.{option_map_or, option_or}
use Rattle.std.proofs.lemmas.List.Folds.{find-append}
use Rattle.std.proofs.lemmas.List.{take-append-drop}
use Rattle.std.proofs.lemmas.Bool.Decides.{nat_tests}
use Rattle.std.proofs.lemmas.Bool.{false≢true}
use Rattle.cv_model.specs.declared.edit.Edit.{Edit}
use Rattle.cv_model.specs.declared.edit.Edit.TheVariants.{AddFeature, InsertFeature, RemoveFeature}
use Rattle.cv_model.specs.declared.edit.Edit.TheVariants.{SetGeometry, SetAttribute, SetCell, SetStyle}
use Rattle.cv_model.specs.declared.edit.Edit.TheVariants.{SetMask, SetJoin, AddLayer, RemoveLayer}
use Rattle.cv_model.specs.declared.edit.Edit.TheVariants.{SetOpacity, SetBlend, SetVisible, SetScales}
use Rattle.cv_model.specs.declared.edit.Edit.TheVariants.{MoveLayer, SetBackground}
use Rattle.cv_model.specs.Layers.{Core, Layer, is_layer, core_in, layer_of_new}
use Rattle.cv_model.specs.Edits.{touched, touches_any, change_core, change_layer, without_layer, moved}
use Rattle.cv_model.specs.Edits.{step_layers}

abbrev pub core_of : Option Layer → Option Core
core_of found = option_map (λ (layer : Layer). layer.core) found

-- two searches that test alike, with the same core where the test passes, and that go on alike
search_alike : (a b : Bool) (l k : Layer) (r s : Option Layer)
    → a ≡ b → (a ≡ true → l.core ≡ k.core) → core_of r ≡ core_of s
    → core_of (cond a (Some l) r) ≡ core_of (cond b (Some k) s)
search_alike true true l k r s alike same more = ap Some (same refl)
search_alike true false l k r s alike same more = absurd (false≢true (sym alike))
search_alike false true l k r s alike same more = absurd (false≢true alike)
search_alike false false l k r s alike same more = more

-- a number that is equal to one isn't equal to another
not_both : (a b c : ℕ) → (a == b) ≡ true → nat_eq b c ≡ false → (a == c) ≡ false
not_both a b c h g = grind (arith, nat_tests)

-- the edit doesn't change the layer with this id
abbrev pub Leaves : Edit → ℕ → Type 0
Leaves edit q = option_map_or (λ id. nat_eq id q) (touched edit) false ≡ false

-- one layer of a list whose core is changed is found by another id as before
change_alike : (id : ℕ) (change : Core → Core) → ((c : Core) → (change c).id ≡ c.id) → (q : ℕ)
    → nat_eq id q ≡ false
    → (layers : List Layer) → core_in (change_core id change layers) q ≡ core_in layers q
change_alike id change keeps q other [] = refl
change_alike id change keeps q other (l ∷ rest) = by (is_layer id l) refl (change_alike id change keeps q
    other rest)
  where
    by : (b : Bool) → is_layer id l ≡ b → core_in (change_core id change rest) q ≡ core_in rest q
        → core_in ((if b then record l { core = change l.core } else l) ∷ change_core id change rest) q ≡
        core_in (l ∷ rest) q
    by true is more =
        let was = not_both l.core.id id q is other in
        let now = ap (λ n. n == q) (keeps l.core) ∙ was in
        search_alike _ _ _ _ _ _ (now ∙ sym was) (λ h. absurd (false≢true (sym now ∙ h))) more
    by false is more = search_alike _ _ _ _ _ _ refl (λ h. refl) more

-- a change besides the cores leaves them
layer_alike : (id : ℕ) (change : Layer → Layer) → ((l : Layer) → (change l).core ≡ l.core) → (q : ℕ)
    → (layers : List Layer) → core_in (change_layer id change layers) q ≡ core_in layers q
layer_alike id change keeps q [] = refl
layer_alike id change keeps q (l ∷ rest) = by (is_layer id l) (layer_alike id change keeps q rest)
  where
    by : (b : Bool) → core_in (change_layer id change rest) q ≡ core_in rest q
        → core_in ((if b then change l else l) ∷ change_layer id change rest) q ≡ core_in (l ∷ rest) q
    by true more = search_alike _ _ _ _ _ _ (ap (λ (c : Core). c.id == q) (keeps l)) (λ h. keeps l) more
    by false more = search_alike _ _ _ _ _ _ refl (λ h. refl) more

-- a list without one layer has the others as before
without_alike : (id q : ℕ) → nat_eq id q ≡ false → (layers : List Layer)
    → core_in (without_layer id layers) q ≡ core_in layers q
without_alike id q other [] = refl
without_alike id q other (l ∷ rest) = by (is_layer id l) refl (without_alike id q other rest)
  where
    by : (b : Bool) → is_layer id l ≡ b → core_in (without_layer id rest) q ≡ core_in rest q
        → core_in (cond (not b) (l ∷ without_layer id rest) (without_layer id rest)) q ≡ core_in (l ∷ rest) q
    by true is more = more ∙ sym (ap (λ b. core_of (cond b (Some l) (find (is_layer q) rest))) (not_both
        l.core.id id q is other))
    by false is more = search_alike _ _ _ _ _ _ refl (λ h. refl) more

-- and it hasn't the one
none_without : (id : ℕ) (layers : List Layer) → find (is_layer id) (without_layer id layers) ≡ None
none_without id [] = refl
none_without id (l ∷ rest) = by (is_layer id l) refl (none_without id rest)
  where
    by : (b : Bool) → is_layer id l ≡ b → find (is_layer id) (without_layer id rest) ≡ None
        → find (is_layer id) (cond (not b) (l ∷ without_layer id rest) (without_layer id rest)) ≡ None
    by true is more = more
    by false is more = ap (λ b. cond b (Some l) (find (is_layer id) (without_layer id rest))) is ∙ more

-- a layer that is found by an id has it
pub found_is : (id : ℕ) (layers : List Layer) (l : Layer) → find (is_layer id) layers ≡ Some l
    → is_layer id l ≡ true
found_is id [] l h = absurd cc
found_is id (k ∷ rest) l h = by (is_layer id k) refl h (found_is id rest l)
  where
    by : (b : Bool) → is_layer id k ≡ b → cond b (Some k) (find (is_layer id) rest) ≡ Some l
        → (find (is_layer id) rest ≡ Some l → is_layer id l ≡ true) → is_layer id l ≡ true
    by true is h more = let e : k ≡ l = cc in ap (is_layer id) (sym e) ∙ is
    by false is h more = more h

-- a layer put in is passed over by another id
insert_alike : (layers : List Layer) (place : ℕ) (l : Layer) (q : ℕ) → is_layer q l ≡ false
    → find (is_layer q) (insert layers place l) ≡ find (is_layer q) layers
insert_alike layers place l q other =
    find-append (is_layer q) (take place layers) (l ∷ drop place layers)
    ∙ ap (λ b. option_or (find (is_layer q) (take place layers)) (cond b (Some l) (find (is_layer q) (drop
    place layers)))) other
    ∙ sym (find-append (is_layer q) (take place layers) (drop place layers))
    ∙ ap (find (is_layer q)) (take-append-drop place layers)

-- nothing is found at the front of a list in which nothing is found
front_none : (a b : Option Layer) → option_or a b ≡ None → a ≡ None
front_none None b h = refl
front_none (Some l) b h = absurd cc

-- a layer put in is found by its id where no other one has it
insert_found : (layers : List Layer) (place : ℕ) (l : Layer) (id : ℕ) → is_layer id l ≡ true
    → find (is_layer id) layers ≡ None
    → find (is_layer id) (insert layers place l) ≡ Some l
insert_found layers place l id is none =
    let all = find-append (is_layer id) (take place layers) (drop place layers) in
    let front = front_none _ _ (sym all ∙ ap (find (is_layer id)) (take-append-drop place layers) ∙ none) in
    find-append (is_layer id) (take place layers) (l ∷ drop place layers)
    ∙ ap (λ o. option_or o (cond (is_layer id l) (Some l) (find (is_layer id) (drop place layers)))) front
    ∙ ap (λ b. cond b (Some l) (find (is_layer id) (drop place layers))) is

-- a layer that is moved leaves all cores as they are
moved_alike : (id place : ℕ) (layers : List Layer) (q : ℕ) → core_in (moved id place layers) q ≡ core_in
    layers q
moved_alike id place layers q = by (find (is_layer id) layers) refl (nat_eq id q) refl
  where
    by : (o : Option Layer) → find (is_layer id) layers ≡ o → (b : Bool) → nat_eq id q ≡ b
        → core_in (option_map_or (λ (l : Layer). insert (without_layer id layers) place l) o layers) q ≡
        core_in layers q
    by None h b same = refl
    by (Some l) h true same =
        let e : id ≡ q = grind (arith, nat_tests) in
        ap (λ n. core_of (find (is_layer n) (insert (without_layer id layers) place l))) (sym e)
        ∙ ap core_of (insert_found (without_layer id layers) place l id (found_is id layers l h)
        (none_without id layers) ∙ sym h)
        ∙ ap (core_in layers) e
    by (Some l) h false other =
        ap core_of (insert_alike (without_layer id layers) place l q (not_both l.core.id id q (found_is id
        layers l h) other))
        ∙ without_alike id q other layers

-- the core of a layer that an edit doesn't touch stays as it is
pub core_stays : (layers : List Layer) (edit : Edit) (q : ℕ) → Leaves edit q
    → core_in (step_layers layers edit) q ≡ core_in layers q
core_stays layers (AddFeature layer feature) q h = change_alike layer _ (λ c. refl) q h layers
core_stays layers (InsertFeature layer at feature) q h = change_alike layer _ (λ c. refl) q h layers
core_stays layers (RemoveFeature layer id) q h = change_alike layer _ (λ c. refl) q h layers
core_stays layers (SetGeometry layer id geometry) q h = change_alike layer _ (λ c. refl) q h layers
core_stays layers (SetAttribute layer id column value) q h = change_alike layer _ (λ c. refl) q h layers
core_stays layers (SetCell layer row col cell) q h = change_alike layer _ (λ c. refl) q h layers
core_stays layers (SetStyle layer style) q h = change_alike layer _ (λ c. refl) q h layers
core_stays layers (SetMask layer mask) q h = change_alike layer _ (λ c. refl) q h layers
core_stays layers (SetJoin layer join) q h = change_alike layer _ (λ c. refl) q h layers
core_stays layers (AddLayer place layer) q h = ap core_of (insert_alike layers place (layer_of_new layer) q h)
core_stays layers (RemoveLayer layer) q h = without_alike layer q h layers
core_stays layers (SetOpacity layer opacity) q h = layer_alike layer _ (λ l. refl) q layers
core_stays layers (SetBlend layer blend) q h = layer_alike layer _ (λ l. refl) q layers
core_stays layers (SetVisible layer visible) q h = layer_alike layer _ (λ l. refl) q layers
core_stays layers (SetScales layer scales) q h = layer_alike layer _ (λ l. refl) q layers
core_stays layers (MoveLayer layer place) q h = moved_alike layer place layers q
core_stays layers (SetBackground colour) q h = refl

-- an edit that touches none of some layers doesn't touch the first of them
pub leaves_first : (edit : Edit) (q : ℕ) (ids : List ℕ) → touches_any edit (q ∷ ids) ≡ false → Leaves edit q
leaves_first edit q ids h = by (touched edit) h
  where
    by : (o : Option ℕ) → option_map_or (λ id. list_any (nat_eq id) (q ∷ ids)) o false ≡ false
        → option_map_or (λ id. nat_eq id q) o false ≡ false
    by None h = refl
    by (Some id) h = first (nat_eq id q) h
      where
        first : (b : Bool) → (b || list_any (nat_eq id) ids) ≡ false → b ≡ false
        first true h = absurd (false≢true (sym h))
        first false h = refl

-- nor any of the others
pub leaves_rest : (edit : Edit) (q : ℕ) (ids : List ℕ) → touches_any edit (q ∷ ids) ≡ false
    → touches_any edit ids ≡ false
leaves_rest edit q ids h = by (touched edit) h
  where
    by : (o : Option ℕ) → option_map_or (λ id. list_any (nat_eq id) (q ∷ ids)) o false ≡ false
        → option_map_or (λ id. list_any (nat_eq id) ids) o false ≡ false
    by None h = refl
    by (Some id) h = rest (nat_eq id q) h
      where
        rest : (b : Bool) → (b || list_any (nat_eq id) ids) ≡ false → list_any (nat_eq id) ids ≡ false
        rest true h = absurd (false≢true (sym h))
        rest false h = h
