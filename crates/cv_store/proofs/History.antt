-- Histories of edits: what equal stamps say, and that a store goes on with one.
use Rattle.std.proofs.Common.{◌≡◌, ◌∙◌, sym, ap, subst, refl, ℕ, zero, suc, ◌+◌, ◌≤◌, Bool, true, false}
use Rattle.std.proofs.Common.{List, [], ◌∷◌, ◌++◌, length, Option, Some, None, arith, map, ◌||◌, take, drop, nat_lt}
use Rattle.std.specs.Prelude.{nat_eq, find, option_map, option_and_then, if◌then◌else◌, fold, is_some}
use Rattle.std.specs.List.{list_any, AllByRecursion}
use Rattle.std.specs.Option.{option_map_or, option_to_list}
use Rattle.std.proofs.lemmas.Bool.{false≢true}
use Rattle.std.proofs.lemmas.Bool.Decides.{nat_tests}
use Rattle.std.proofs.lemmas.List.{take-append-drop}
use Rattle.std.proofs.lemmas.List.Sums.{fold-append}
use native.Mathlib.Decide.{dec_le}
use mathlib.Core.Logic.{dite}
use Rattle.cv_model.specs.declared.edit.Edit.{Edit}
use Rattle.cv_model.specs.declared.layer.Join.{Join}
use Rattle.cv_model.specs.Layers.{Core, Layer, Project, is_layer, core_in, parts, parts_among, deps, deps_of, has_layer}
use Rattle.cv_model.specs.Paintings.{Stamp}
use Rattle.cv_model.specs.Edits.{touched, touches_any, step, last_touch, revision, stamps}
use Rattle.cv_model.proofs.EditLemmas.{Leaves, core_of, core_stays}
use Rattle.cv_model.proofs.LawLemmas.{core_id}
use Rattle.cv_store.specs.Stores.{project_of, revision_in}
use Rattle.cv_store.specs.Answers.{revision_after}
use Rattle.cv_store.specs.Laws.{EqualStampsEqualParts, HistoryGoesOn}

-- an edit touches this id
abbrev pub hits : ℕ → Edit → Bool
hits q e = touches_any e (q ∷ [])

leaves : (e : Edit) (q : ℕ) → hits q e ≡ false → Leaves e q
leaves e q h = by (touched e) h
  where
    by : (o : Option ℕ) → option_map_or (λ id. list_any (nat_eq id) (q ∷ [])) o false ≡ false
        → option_map_or (λ id. nat_eq id q) o false ≡ false
    by None h = refl
    by (Some id) h = one (nat_eq id q) h
      where
        one : (b : Bool) → (b || false) ≡ false → b ≡ false
        one true h = h
        one false h = refl

-- ---- the last edit that touches an id

last_bound : (q : ℕ) (es : List Edit) → last_touch q es ≤ length es
last_bound q [] = omega arith
last_bound q (e ∷ es) = by (nat_lt 0 (last_touch q es)) (hits q e) (last_bound q es)
  where
    by : (a b : Bool) → last_touch q es ≤ length es
        → (if a then suc (last_touch q es) else if b then 1 else 0) ≤ suc (length es)
    by true b h = omega arith
    by false true h = omega arith
    by false false h = omega arith

-- none of these edits touches the id
abbrev pub Spare : ℕ → List Edit → Type 0
Spare q es = list_any (hits q) es ≡ false

last_spare : (q : ℕ) (es : List Edit) → Spare q es → last_touch q es ≡ 0
last_spare q [] h = refl
last_spare q (e ∷ es) h = by (hits q e) refl h (last_spare q es)
  where
    by : (b : Bool) → hits q e ≡ b → (b || list_any (hits q) es) ≡ false
        → (list_any (hits q) es ≡ false → last_touch q es ≡ 0)
        → (if nat_lt 0 (last_touch q es) then suc (last_touch q es) else if hits q e then 1 else 0) ≡ 0
    by true is g more = absurd (false≢true (sym g))
    by false is g more =
        ap (λ n. if nat_lt 0 n then suc n else if hits q e then 1 else 0) (more g)
        ∙ ap (λ b. if b then 1 else 0) is

-- where one of these edits touches it, the last one isn't before them
last_some : (q : ℕ) (es : List Edit) → list_any (hits q) es ≡ true → 1 ≤ last_touch q es
last_some q [] h = absurd (false≢true h)
last_some q (e ∷ es) h = by (nat_lt 0 (last_touch q es)) refl (hits q e) refl h (last_some q es)
  where
    by : (a : Bool) → nat_lt 0 (last_touch q es) ≡ a → (b : Bool) → hits q e ≡ b
        → (b || list_any (hits q) es) ≡ true → (list_any (hits q) es ≡ true → 1 ≤ last_touch q es)
        → 1 ≤ (if a then suc (last_touch q es) else if b then 1 else 0)
    by true e b is g more = omega arith
    by false e true is g more = omega arith
    by false e false is g more = let some = more g in absurd (grind (arith, nat_tests, e, some))

last_append : (q : ℕ) (xs ys : List Edit) → list_any (hits q) ys ≡ true
    → last_touch q (xs ++ ys) ≡ length xs + last_touch q ys
last_append q [] ys h = omega arith
last_append q (x ∷ xs) ys h =
    let more = last_append q xs ys h in
    let some = last_some q ys h in
    let above : nat_lt 0 (last_touch q (xs ++ ys)) ≡ true = grind (arith, nat_tests, more, some) in
    let next : suc (last_touch q (xs ++ ys)) ≡ length (x ∷ xs) + last_touch q ys = omega (arith, more) in
    ap (λ b. if b then suc (last_touch q (xs ++ ys)) else if hits q x then 1 else 0) above ∙ next

pub last_stays : (q : ℕ) (xs ys : List Edit) → Spare q ys → last_touch q (xs ++ ys) ≡ last_touch q xs
last_stays q [] ys h = last_spare q ys h
last_stays q (x ∷ xs) ys h = ap (λ n. if nat_lt 0 n then suc n else if hits q x then 1 else 0) (last_stays q xs ys h)

-- so, where the last touch is as before, none of the edits behind touches it
pub spare_behind : (q : ℕ) (xs ys : List Edit) → last_touch q (xs ++ ys) ≡ last_touch q xs → Spare q ys
spare_behind q xs ys h = by (list_any (hits q) ys) refl
  where
    by : (b : Bool) → list_any (hits q) ys ≡ b → b ≡ false
    by false e = refl
    by true e =
        let more = last_append q xs ys e in
        let some = last_some q ys e in
        let bound = last_bound q xs in
        absurd (omega (arith, h, more, some, bound))

-- ---- cores behind edits that don't touch them

pub core_spare : (q : ℕ) (es : List Edit) (p : Project) → Spare q es
    → core_in (fold step p es).layers q ≡ core_in p.layers q
core_spare q [] p h = refl
core_spare q (e ∷ es) p h = by (hits q e) refl h (core_spare q es (step p e))
  where
    by : (b : Bool) → hits q e ≡ b → (b || list_any (hits q) es) ≡ false
        → (Spare q es → core_in (fold step (step p e) es).layers q ≡ core_in (step p e).layers q)
        → core_in (fold step (step p e) es).layers q ≡ core_in p.layers q
    by true is g more = absurd (false≢true (sym g))
    by false is g more = more g ∙ core_stays p.layers e q (leaves e q is)

-- a layer that isn't there has no core
core_gone : (q : ℕ) (layers : List Layer) → has_layer q layers ≡ false → core_in layers q ≡ None
core_gone q [] h = refl
core_gone q (l ∷ layers) h = by (is_layer q l) refl h (core_gone q layers)
  where
    by : (b : Bool) → is_layer q l ≡ b → (b || has_layer q layers) ≡ false
        → (has_layer q layers ≡ false → core_in layers q ≡ None) → core_in (l ∷ layers) q ≡ None
    by true is g more = absurd (false≢true (sym g))
    by false is g more = ap (λ b. core_of (if b then Some l else find (is_layer q) layers)) is ∙ more g

-- where the revisions of an id are equal at two versions, its cores are
core_alike : (p : Project) (xs ys : List Edit) (q : ℕ) → revision p (xs ++ ys) q ≡ revision p xs q
    → core_in (fold step p (xs ++ ys)).layers q ≡ core_in (fold step p xs).layers q
core_alike p xs ys q h =
    by (has_layer q (fold step p (xs ++ ys)).layers) refl (has_layer q (fold step p xs).layers) refl h
  where
    by : (a : Bool) → has_layer q (fold step p (xs ++ ys)).layers ≡ a
        → (b : Bool) → has_layer q (fold step p xs).layers ≡ b
        → (if a then suc (last_touch q (xs ++ ys)) else 0) ≡ (if b then suc (last_touch q xs) else 0)
        → core_in (fold step p (xs ++ ys)).layers q ≡ core_in (fold step p xs).layers q
    by true e true f h =
        let same : last_touch q (xs ++ ys) ≡ last_touch q xs = omega (arith, h) in
        ap (λ (r : Project). core_in r.layers q) (fold-append step p xs ys)
        ∙ core_spare q ys (fold step p xs) (spare_behind q xs ys same)
    by true e false f h = absurd (omega (arith, h))
    by false e true f h = absurd (omega (arith, h))
    by false e false f h = core_gone q _ e ∙ sym (core_gone q _ f)

-- ---- parts from stamps

head_id : List Stamp → ℕ
head_id [] = 0
head_id (x ∷ xs) = x.id

head_revision : List Stamp → ℕ
head_revision [] = 0
head_revision (x ∷ xs) = x.revision

rest_of : List Stamp → List Stamp
rest_of [] = []
rest_of (x ∷ xs) = xs

-- ids that have equal stamps have equal revisions
alike_each : (a b : ℕ → ℕ) (ds es : List ℕ)
    → map {B = Stamp} (λ d. record { id = d; revision = a d }) ds
    ≡ map {B = Stamp} (λ d. record { id = d; revision = b d }) es
    → AllByRecursion (λ q. a q ≡ b q) ds
unfolding head_id head_revision rest_of
alike_each a b [] es h = tt
alike_each a b (d ∷ ds) [] h = absurd cc
alike_each a b (d ∷ ds) (e ∷ es) h =
    let same : d ≡ e = ap head_id h in
    (ap head_revision h ∙ ap b (sym same), alike_each a b ds es (ap rest_of h))

module _ (ls ms : List Layer) where
  -- an id has the same core in both lists
  abbrev pub Same : ℕ → Type 0
  Same q = core_in ls q ≡ core_in ms q

  looked : (o : Option ℕ) (rest : List ℕ) → AllByRecursion Same (option_to_list o ++ rest)
      → option_and_then (core_in ls) o ≡ option_and_then (core_in ms) o
  looked None rest h = refl
  looked (Some q) rest h = h.0

  left : (o : Option ℕ) (rest : List ℕ) → AllByRecursion Same (option_to_list o ++ rest)
      → AllByRecursion Same rest
  left None rest h = h
  left (Some q) rest h = h.1

  joined : (o : Option Join) → AllByRecursion Same (option_to_list (option_map (λ (join : Join). join.layer) o))
      → option_and_then (λ (join : Join). core_in ls join.layer) o
      ≡ option_and_then (λ (join : Join). core_in ms join.layer) o
  joined None h = refl
  joined (Some join) h = h.0

  parts_alike : (own : Core) → AllByRecursion Same (deps_of own) → parts_among ls own ≡ parts_among ms own
  parts_alike own h =
      let mask = looked own.mask _ h.1 in
      let join = joined own.join (left own.mask _ h.1) in
      λ i. record { own = own; mask = mask i; join = join i }

all_map : (P Q : ℕ → Type 0) (xs : List ℕ) → ((x : ℕ) → P x → Q x) → AllByRecursion P xs → AllByRecursion Q xs
all_map P Q [] f h = tt
all_map P Q (x ∷ xs) f h = (f x h.0, all_map P Q xs f h.1)

ordered : (p : Project) (xs ys : List Edit) (id : ℕ) → stamps p xs id ≡ stamps p (xs ++ ys) id
    → parts (fold step p xs) id ≡ parts (fold step p (xs ++ ys)) id
ordered p xs ys id h =
    let ls = (fold step p xs).layers in
    let ms = (fold step p (xs ++ ys)).layers in
    let revisions = alike_each (revision p xs) (revision p (xs ++ ys)) (deps (fold step p xs) id) (deps (fold step p
    (xs ++ ys)) id) h in
    by (core_in ls id) refl
    (all_map (λ q. revision p xs q ≡ revision p (xs ++ ys) q) (Same ls ms) (deps (fold step p xs) id)
    (λ q same. sym (core_alike p xs ys q (sym same))) revisions)
  where
    ls : List Layer
    ls = (fold step p xs).layers

    ms : List Layer
    ms = (fold step p (xs ++ ys)).layers

    by : (o : Option Core) → core_in ls id ≡ o → AllByRecursion (Same ls ms) (option_map_or deps_of o (id ∷ []))
        → option_map (parts_among ls) (core_in ls id) ≡ option_map (parts_among ms) (core_in ms id)
    by None e all =
        ap (option_map (parts_among ls)) e ∙ sym (ap (option_map (parts_among ms)) (sym all.0 ∙ e))
    by (Some own) e all =
        let is = core_id ls id own e in
        let there : core_in ms id ≡ Some own = sym (subst (Same ls ms) is all.0) ∙ e in
        ap (option_map (parts_among ls)) e ∙ ap Some (parts_alike ls ms own all)
        ∙ sym (ap (option_map (parts_among ms)) there)

take_take : (m n : ℕ) (xs : List Edit) → m ≤ n → take m (take n xs) ≡ take m xs
take_take zero n xs h = refl
take_take (suc m) zero xs h = absurd (omega (arith, h))
take_take (suc m) (suc n) [] h = refl
take_take (suc m) (suc n) (x ∷ xs) h = ap (λ l. x ∷ l) (take_take m n xs (omega (arith, h)))

pub split : (m n : ℕ) (edits : List Edit) → m ≤ n → take m edits ++ drop m (take n edits) ≡ take n edits
split m n edits h = ap (λ l. l ++ drop m (take n edits)) (sym (take_take m n edits h)) ∙ take-append-drop m (take n edits)

pub equal_stamps_equal_parts : EqualStampsEqualParts
equal_stamps_equal_parts p edits m n id h =
    dite (dec_le m n)
    (λ le. let is = split m n edits le in
    ordered p (take m edits) (drop m (take n edits)) id (h ∙ ap (λ l. stamps p l id) (sym is))
    ∙ ap (λ l. parts (fold step p l) id) is)
    (λ gt. let is = split n m edits (omega (arith, gt)) in
    sym (ordered p (take n edits) (drop n (take m edits)) id (sym h ∙ ap (λ l. stamps p l id) (sym is))
    ∙ ap (λ l. parts (fold step p l) id) is))

-- ---- a store goes on with its history

length_more : (es : List Edit) (e : Edit) → length (es ++ e ∷ []) ≡ suc (length es)
length_more [] e = refl
length_more (x ∷ es) e = ap suc (length_more es e)

pub any_core : (q : ℕ) (layers : List Layer) → has_layer q layers ≡ is_some (core_in layers q)
any_core q [] = refl
any_core q (l ∷ layers) = by (is_layer q l) (any_core q layers)
  where
    by : (b : Bool) → has_layer q layers ≡ is_some (core_in layers q)
        → (b || has_layer q layers) ≡ is_some (core_of (if b then Some l else find (is_layer q) layers))
    by true more = refl
    by false more = more

pub history_goes_on : HistoryGoesOn
history_goes_on p es e s t was edited = record {
  project_is = project;
  version_is = edited.version ∙ ap suc was.version_is ∙ ap suc (sym (length_more es e));
  revisions_are = λ q. edited.revisions q ∙ by q (hits q e) refl;
}
  where
    last : fold step p (es ++ e ∷ []) ≡ step (fold step p es) e
    last = fold-append step p es (e ∷ [])

    project : project_of t ≡ fold step p (es ++ e ∷ [])
    project = edited.project ∙ ap (λ r. step r e) was.project_is ∙ sym last

    stepped : step (project_of s) e ≡ fold step p (es ++ e ∷ [])
    stepped = ap (λ r. step r e) was.project_is ∙ sym last

    by : (q : ℕ) (b : Bool) → hits q e ≡ b → revision_after s e q ≡ revision p (es ++ e ∷ []) q
    by q true h =
        let any : list_any (hits q) (e ∷ []) ≡ true = ap (λ b. b || false) h in
        let one : last_touch q (e ∷ []) ≡ 1 = ap (λ b. if b then 1 else 0) h in
        let at = last_append q es (e ∷ []) any in
        let now : suc s.version ≡ suc (last_touch q (es ++ e ∷ [])) = omega (arith, at, one, was.version_is) in
        ap (λ b. if b then (if has_layer q (step (project_of s) e).layers then suc s.version else 0) else
        revision_in s q) h
        ∙ (λ i. if has_layer q (stepped i).layers then now i else 0)
    by q false h =
        let spare : Spare q (e ∷ []) = ap (λ b. b || false) h in
        let same = last_stays q es (e ∷ []) spare in
        let there : has_layer q (fold step p es).layers ≡ has_layer q (fold step p (es ++ e ∷ [])).layers = any_core q
        (fold step p es).layers
        ∙ ap is_some (sym (core_stays (fold step p es).layers e q (leaves e q h)))
        ∙ sym (any_core q (step (fold step p es) e).layers)
        ∙ ap (λ (r : Project). has_layer q r.layers) (sym last) in
        ap (λ b. if b then (if has_layer q (step (project_of s) e).layers then suc s.version else 0) else
        revision_in s q) h
        ∙ was.revisions_are q ∙ (λ i. if there i then suc (sym same i) else 0)
