-- Tables and their edits: where a feature is found, and what an edit of it leaves.
use Rattle.std.proofs.Common.{◌≡◌, ◌∙◌, sym, ap, subst, refl, ℕ, zero, suc, ◌+◌, ◌<◌, ◌≤◌, Bool, true, false, not}
use Rattle.std.proofs.Common.{List, [], ◌∷◌, ◌++◌, length, take, drop, Some, None, arith, cond}
use Rattle.std.proofs.Common.{set, ◌||◌, ◌-◌}
use Rattle.std.specs.Prelude.{insert, remove, position, nat_eq, slice_index_or as get_or, sum_by}
use Rattle.std.specs.Prelude.{if◌then◌else◌, ◌==◌, slice_get, nat_lt}
use Rattle.std.specs.List.{list_any, AllByRecursion, IsDistinct, position_or_len}
use Rattle.std.proofs.lemmas.Bool.{false≢true}
use Rattle.std.proofs.lemmas.Bool.Decides.{nat_tests}
use Rattle.std.proofs.lemmas.List.{take-map, drop-map, drop-drop, drop-take, take-take, get_or-map}
use Rattle.std.proofs.lemmas.List.{get_or-drop, get_or-take, length-take, length-take-le, length-drop, append_assoc, set_split}
use Rattle.std.proofs.lemmas.List.Sums.{fails_before_first}
use Rattle.cv_chunks.specs.Parts.{IsRunFrom}
use Rattle.std.proofs.lemmas.List.Elements.{All-cons, All-append, All-take, All-drop}
use Rattle.std.proofs.lemmas.List.Elements.{All-set, All-get_or}
use Rattle.std.proofs.lemmas.List.Sums.{sum_by-set, sum_by-insert, sum_by-remove, get_or-le-sum_by}
use Rattle.std.proofs.lemmas.List.Sums.{position_or_len_is}
use mathlib.Core.Logic.{dite}
use native.Mathlib.Decide.{ℕ_discrete, dec_le}
use Rattle.std.proofs.lemmas.Option.{slice_get_within, get_or_from_slice_get}
use Rattle.std.proofs.lemmas.List.Quantifiers.{position-Some}
use Rattle.cv_model.specs.declared.feature.Feature.{Feature}
use Rattle.cv_model.specs.Features.{ids_of}
use Rattle.cv_model.specs.Edits.{is_feature, change_feature, without_feature}
use Rattle.cv_model.specs.Edits.{feature_vertices}
use Rattle.cv_layer.specs.declared.stretches.Stretch.{Stretch}
use Rattle.cv_layer.specs.Stretches.{Ascend, IsStretch, AreStretches}
use Rattle.cv_layer.specs.Tables.{TableParts, IsTable, feature_values}
use Rattle.cv_layer.proofs.StretchLemmas.{part_of_stretch}

-- ---- the place of a feature

-- the first feature with this id stands at the place
abbrev pub IsFound : ℕ → List Feature → ℕ → Type 0
IsFound id [] n = ⊥
IsFound id (f ∷ fs) zero = is_feature id f ≡ true
IsFound id (f ∷ fs) (suc n) = (is_feature id f ≡ false) × IsFound id fs n

found_from : (id : ℕ) (fs : List Feature) (d : Feature) (n : ℕ) → n < length fs
    → is_feature id (get_or fs n d) ≡ true
    → ((k : ℕ) → k < n → is_feature id (get_or fs k d) ≡ false) → IsFound id fs n
found_from id [] d n within is before = absurd (omega arith)
found_from id (f ∷ fs) d zero within is before = is
found_from id (f ∷ fs) d (suc n) within is before =
    (before 0 (omega arith), found_from id fs d n (omega arith) is (λ k l. before (suc k) (omega arith)))

pub found : (id : ℕ) (fs : List Feature) (d : Feature) (n : ℕ) → position (is_feature id) fs ≡ Some n
    → IsFound id fs n
found id fs d n h =
    let known = position-Some (is_feature id) fs n d h in
    found_from id fs d n known.0 known.1 known.2

-- a feature that is found at a place is within the list, and has the id
pub found_within : (id : ℕ) (fs : List Feature) (n : ℕ) → IsFound id fs n → n < length fs
found_within id [] n h = absurd h
found_within id (f ∷ fs) zero h = omega arith
found_within id (f ∷ fs) (suc n) h = let more = found_within id fs n h.1 in omega arith

-- no feature has the id
abbrev pub Lack : ℕ → List Feature → Type 0
Lack id fs = AllByRecursion (λ (f : Feature). is_feature id f ≡ false) fs

lack_from_any : (id : ℕ) (fs : List Feature) → list_any (is_feature id) fs ≡ false → Lack id fs
lack_from_any id [] h = tt
lack_from_any id (f ∷ fs) h = by (is_feature id f) refl h (lack_from_any id fs)
  where
    by : (b : Bool) → is_feature id f ≡ b → (b || list_any (is_feature id) fs) ≡ false
        → (list_any (is_feature id) fs ≡ false → Lack id fs) → (is_feature id f ≡ false) × Lack id fs
    by true e g more = absurd (false≢true (sym g))
    by false e g more = (e, more g)

-- what lacks an id isn't changed where the id is
change_lacking : (id : ℕ) (change : Feature → Feature) (fs : List Feature) → Lack id fs
    → change_feature id change fs ≡ fs
change_lacking id change [] h = refl
change_lacking id change (f ∷ fs) h =
    λ i. ap (λ b. if b then change f else f) h.0 i ∷ change_lacking id change fs h.1 i

without_lacking : (id : ℕ) (fs : List Feature) → Lack id fs → without_feature id fs ≡ fs
without_lacking id [] h = refl
without_lacking id (f ∷ fs) h =
    ap (λ b. cond (not b) (f ∷ without_feature id fs) (without_feature id fs)) h.0
    ∙ ap (λ l. f ∷ l) (without_lacking id fs h.1)

-- behind the feature with an id no other has it
lack_behind : (id : ℕ) (f : Feature) (fs : List Feature) → is_feature id f ≡ true
    → AllByRecursion (λ y. nat_eq f.id y ≡ false) (ids_of fs) → Lack id fs
lack_behind id f [] is h = tt
lack_behind id f (g ∷ fs) is h = (grind (arith, nat_tests, is, h.0), lack_behind id f fs is h.1)

-- a change of the one feature with an id is a change at its place
pub change_found : (id : ℕ) (change : Feature → Feature) (fs : List Feature) (d : Feature) (n : ℕ)
    → IsDistinct nat_eq (ids_of fs) → IsFound id fs n
    → change_feature id change fs ≡ set fs n (change (get_or fs n d))
unfolding IsDistinct
change_found id change [] d n distinct h = absurd h
change_found id change (f ∷ fs) d zero distinct h =
    λ i. ap (λ b. if b then change f else f) h i
    ∷ change_lacking id change fs (lack_behind id f fs h distinct.0) i
change_found id change (f ∷ fs) d (suc n) distinct h =
    λ i. ap (λ b. if b then change f else f) h.0 i ∷ change_found id change fs d n distinct.1 h.1 i

-- the list without the one feature with an id is the list without what stands at its place
pub without_found : (id : ℕ) (fs : List Feature) (n : ℕ) → IsDistinct nat_eq (ids_of fs) → IsFound id fs n
    → without_feature id fs ≡ remove fs n
unfolding IsDistinct
without_found id [] n distinct h = absurd h
without_found id (f ∷ fs) zero distinct h =
    ap (λ b. cond (not b) (f ∷ without_feature id fs) (without_feature id fs)) h
    ∙ without_lacking id fs (lack_behind id f fs h distinct.0)
without_found id (f ∷ fs) (suc n) distinct h =
    ap (λ b. cond (not b) (f ∷ without_feature id fs) (without_feature id fs)) h.0
    ∙ ap (λ l. f ∷ l) (without_found id fs n distinct.1 h.1)

-- ---- distinct ids

all_insert : (P : ℕ → Type 0) (xs : List ℕ) (n y : ℕ) → AllByRecursion P xs → P y
    → AllByRecursion P (insert xs n y)
all_insert P xs zero y h g = (g, h)
all_insert P [] (suc n) y h g = (g, tt)
all_insert P (x ∷ xs) (suc n) y h g = (h.0, all_insert P xs n y h.1 g)

all_remove : (P : ℕ → Type 0) (xs : List ℕ) (n : ℕ) → AllByRecursion P xs → AllByRecursion P (remove xs n)
all_remove P [] zero h = h
all_remove P [] (suc n) h = h
all_remove P (x ∷ xs) zero h = h.1
all_remove P (x ∷ xs) (suc n) h = (h.0, all_remove P xs n h.1)

turned : (xs : List ℕ) (y : ℕ) → AllByRecursion (λ x. nat_eq x y ≡ false) xs
    → AllByRecursion (λ x. nat_eq y x ≡ false) xs
turned [] y h = tt
turned (x ∷ xs) y h = (grind (arith, nat_tests, h.0), turned xs y h.1)

distinct_insert : (xs : List ℕ) (n y : ℕ) → IsDistinct nat_eq xs
    → AllByRecursion (λ x. nat_eq x y ≡ false) xs → IsDistinct nat_eq (insert xs n y)
unfolding IsDistinct
distinct_insert xs zero y d h = (turned xs y h, d)
distinct_insert [] (suc n) y d h = (tt, tt)
distinct_insert (x ∷ xs) (suc n) y d h =
    (all_insert (λ z. nat_eq x z ≡ false) xs n y d.0 h.0, distinct_insert xs n y d.1 h.1)

distinct_remove : (xs : List ℕ) (n : ℕ) → IsDistinct nat_eq xs → IsDistinct nat_eq (remove xs n)
unfolding IsDistinct
distinct_remove [] zero d = d
distinct_remove [] (suc n) d = d
distinct_remove (x ∷ xs) zero d = d.1
distinct_remove (x ∷ xs) (suc n) d = (all_remove (λ z. nat_eq x z ≡ false) xs n d.0, distinct_remove xs n d.1)

ids_insert : (fs : List Feature) (n : ℕ) (f : Feature) → ids_of (insert fs n f) ≡ insert (ids_of fs) n f.id
ids_insert fs zero f = refl
ids_insert [] (suc n) f = refl
ids_insert (g ∷ fs) (suc n) f = ap (λ l. g.id ∷ l) (ids_insert fs n f)

ids_remove : (fs : List Feature) (n : ℕ) → ids_of (remove fs n) ≡ remove (ids_of fs) n
ids_remove [] zero = refl
ids_remove [] (suc n) = refl
ids_remove (g ∷ fs) zero = refl
ids_remove (g ∷ fs) (suc n) = ap (λ l. g.id ∷ l) (ids_remove fs n)

lack_ids : (id : ℕ) (fs : List Feature) → Lack id fs → AllByRecursion (λ x. nat_eq x id ≡ false) (ids_of fs)
lack_ids id [] h = tt
lack_ids id (f ∷ fs) h = (h.0, lack_ids id fs h.1)

pub insert_distinct : (fs : List Feature) (n : ℕ) (f : Feature) → IsDistinct nat_eq (ids_of fs)
    → list_any (is_feature f.id) fs ≡ false → IsDistinct nat_eq (ids_of (insert fs n f))
insert_distinct fs n f d h =
    rw (ids_insert fs n f) (distinct_insert (ids_of fs) n f.id d (lack_ids f.id fs (lack_from_any f.id fs h)))

pub remove_distinct : (fs : List Feature) (n : ℕ) → IsDistinct nat_eq (ids_of fs)
    → IsDistinct nat_eq (ids_of (remove fs n))
remove_distinct fs n d = rw (ids_remove fs n) (distinct_remove (ids_of fs) n d)

-- another feature of the same id at a place leaves the ids
pub ids_set : (fs : List Feature) (n : ℕ) (f d : Feature) → (get_or fs n d).id ≡ f.id
    → ids_of (set fs n f) ≡ ids_of fs
ids_set [] zero f d h = refl
ids_set [] (suc n) f d h = refl
ids_set (g ∷ fs) zero f d h = ap (λ x. x ∷ ids_of fs) (sym h)
ids_set (g ∷ fs) (suc n) f d h = ap (λ l. g.id ∷ l) (ids_set fs n f d h)

-- ---- ascending ids

-- the feature at a place of a list whose features' ids are all above a number
above_at : (fs : List Feature) (x k : ℕ) (d : Feature) → AllByRecursion (λ y. x < y) (ids_of fs) → k < length fs
    → x < (get_or fs k d).id
above_at [] x k d h within = absurd (omega arith)
above_at (f ∷ fs) x zero d h within = h.0
above_at (f ∷ fs) x (suc k) d h within = above_at fs x k d h.1 (omega arith)

-- the ids of two features of which one stands before the other
pub ascending_at : (fs : List Feature) (i j : ℕ) (d : Feature) → Ascend (ids_of fs) → i < j → j < length fs
    → (get_or fs i d).id < (get_or fs j d).id
ascending_at [] i j d h before within = absurd (omega arith)
ascending_at (f ∷ fs) i zero d h before within = absurd (omega arith)
ascending_at (f ∷ fs) zero (suc j) d h before within = above_at fs f.id j d h.0 (omega arith)
ascending_at (f ∷ fs) (suc i) (suc j) d h before within =
    ascending_at fs i j d h.1 (omega arith) (omega arith)

-- ---- tables

-- a part of a sum is no more than the sum
pub part_of_total : (count : Feature → ℕ) (fs : List Feature) (n : ℕ) (f : Feature) → slice_get fs n ≡ Some f
    → count f ≤ sum_by count fs
part_of_total count fs n f h =
    rw (get_or_from_slice_get fs n f f h) at (get_or-le-sum_by count fs n f (slice_get_within fs n f h))

-- a table whose feature at a place is another one of the same id and as many values
pub table_set : (t : TableParts) (ss : List Stretch) (vertices values n later : ℕ) (old new : Feature)
    → IsTable t ss vertices values → slice_get t.features n ≡ Some old
    → (old.id ≡ new.id) × (length old.values ≡ length new.values)
    → later + feature_vertices old ≡ vertices + feature_vertices new
    → IsTable (record t { features = (set t.features n new) }) ss later values
table_set t ss vertices values n later old new h at same counts =
    let fs = t.features in
    let within = slice_get_within fs n old at in
    let is = get_or_from_slice_get fs n old new at in
    let ids = ids_set fs n new new (ap (λ (f : Feature). f.id) is ∙ same.0) in
    let v = sum_by-set feature_vertices fs n new new within in
    let w = sum_by-set feature_values fs n new new within in
    let was = All-get_or (λ (f : Feature). length f.values ≡ length t.columns) fs n new within h.table.whole in
    let old_v = ap feature_vertices is in
    let old_w = ap feature_values is in
    record {
      table = record {
        distinct = subst (IsDistinct nat_eq) (sym ids) h.table.distinct;
        whole = All-set (λ (f : Feature). length f.values ≡ length t.columns) fs n new
            (sym same.1 ∙ sym old_w ∙ was) h.table.whole;
      };
      stretches = subst (AreStretches ss) (sym ids) h.stretches;
      vertices_are = omega (arith, v, old_v, counts, h.vertices_are);
      values_are = omega (arith, w, old_w, same.1, h.values_are);
    }

-- a table with a feature more
pub table_insert : (t : TableParts) (more ss : List Stretch) (vertices values n : ℕ) (f : Feature)
    → IsTable t ss vertices values → list_any (is_feature f.id) t.features ≡ false
    → length f.values ≡ length t.columns → n ≤ length t.features
    → AreStretches more (insert (ids_of t.features) n f.id)
    → IsTable (record t { features = (insert t.features n f) }) more (vertices + feature_vertices f)
    (values + length f.values)
table_insert t more ss vertices values n f h fresh even place stretches =
    let fs = t.features in
    record {
      table = record {
        distinct = insert_distinct fs n f h.table.distinct fresh;
        whole = All-append (λ (g : Feature). length g.values ≡ length t.columns) (take n fs) (f ∷ drop n fs)
            (All-take (λ (g : Feature). length g.values ≡ length t.columns) n fs h.table.whole)
            (All-cons (λ (g : Feature). length g.values ≡ length t.columns) f (drop n fs) even
            (All-drop (λ (g : Feature). length g.values ≡ length t.columns) n fs h.table.whole));
      };
      stretches = subst (AreStretches more) (sym (ids_insert fs n f)) stretches;
      vertices_are = ap (λ k. k + feature_vertices f) h.vertices_are ∙ sym (sum_by-insert feature_vertices fs n f);
      values_are = ap (λ k. k + length f.values) h.values_are ∙ sym (sum_by-insert feature_values fs n f);
    }

-- a table with a feature less
pub table_remove : (t : TableParts) (left ss : List Stretch) (vertices values n fewer less : ℕ) (f : Feature)
    → IsTable t ss vertices values → slice_get t.features n ≡ Some f
    → AreStretches left (remove (ids_of t.features) n)
    → fewer + feature_vertices f ≡ vertices → less + length f.values ≡ values
    → IsTable (record t { features = (remove t.features n) }) left fewer less
table_remove t left ss vertices values n fewer less f h at stretches counts counts2 =
    let fs = t.features in
    let within = slice_get_within fs n f at in
    let is = get_or_from_slice_get fs n f f at in
    let v = sum_by-remove feature_vertices fs n f within in
    let w = sum_by-remove feature_values fs n f within in
    let old_v = ap feature_vertices is in
    let old_w = ap feature_values is in
    record {
      table = record {
        distinct = remove_distinct fs n h.table.distinct;
        whole = All-append (λ (g : Feature). length g.values ≡ length t.columns) (take n fs) (drop (suc n) fs)
            (All-take (λ (g : Feature). length g.values ≡ length t.columns) n fs h.table.whole)
            (All-drop (λ (g : Feature). length g.values ≡ length t.columns) (suc n) fs h.table.whole);
      };
      stretches = subst (AreStretches left) (sym (ids_remove fs n)) stretches;
      vertices_are = omega (arith, v, old_v, counts, h.vertices_are);
      values_are = omega (arith, w, old_w, counts2, h.values_are);
    }

-- two features at one place are one
pub same_found : (fs : List Feature) (n : ℕ) (a b : Feature) → slice_get fs n ≡ Some a → slice_get fs n ≡ Some b
    → b ≡ a
same_found fs n a b h g = sym (get_or_from_slice_get fs n b a g) ∙ get_or_from_slice_get fs n a a h

-- a feature of a table has a value for each column
pub even_at : (t : TableParts) (ss : List Stretch) (vertices values n : ℕ) (f : Feature)
    → IsTable t ss vertices values → slice_get t.features n ≡ Some f → length f.values ≡ length t.columns
even_at t ss vertices values n f h at =
    ap (λ (g : Feature). length g.values) (sym (get_or_from_slice_get t.features n f f at))
    ∙ All-get_or (λ (g : Feature). length g.values ≡ length t.columns) t.features n f
    (slice_get_within t.features n f at) h.table.whole

-- a change of a table's feature that has an id
pub changed : (id : ℕ) (change : Feature → Feature) (t : TableParts) (ss : List Stretch) (vertices values n : ℕ)
    (old new : Feature) → IsTable t ss vertices values → position (is_feature id) t.features ≡ Some n
    → slice_get t.features n ≡ Some old → new ≡ change old
    → change_feature id change t.features ≡ set t.features n new
changed id change t ss vertices values n old new h place at is =
    change_found id change t.features old n h.table.distinct (found id t.features old n place)
    ∙ ap (λ f. set t.features n f) (ap change (get_or_from_slice_get t.features n old old at) ∙ sym is)

-- a table's features without the one that has an id
pub removed : (id : ℕ) (t : TableParts) (ss : List Stretch) (vertices values n : ℕ) (d : Feature)
    → IsTable t ss vertices values → position (is_feature id) t.features ≡ Some n
    → without_feature id t.features ≡ remove t.features n
removed id t ss vertices values n d h place =
    without_found id t.features n h.table.distinct (found id t.features d n place)

-- ---- searches

-- the place of a feature that has an id, where none before it has it
pub position_at : (id : ℕ) (fs : List Feature) (n : ℕ) → n < length fs
    → ((d : Feature) → is_feature id (get_or fs n d) ≡ true)
    → ((k : ℕ) (d : Feature) → k < n → is_feature id (get_or fs k d) ≡ false)
    → position (is_feature id) fs ≡ Some n
position_at id [] n within is before = absurd (omega arith)
position_at id (f ∷ fs) n within is before =
    let at = position_or_len_is (is_feature id) (f ∷ fs) n f (omega arith) (λ k l. before k f l) (λ l. is f) in
    let test : nat_lt n (length (f ∷ fs)) ≡ true = grind (arith, nat_tests) in
    ap (λ k. cond (nat_lt k (length (f ∷ fs))) (Some k) None) at
    ∙ ap (λ b. cond b (Some n) None) test

-- there is none where no feature has the id
pub position_none : (id : ℕ) (fs : List Feature)
    → ((k : ℕ) (d : Feature) → k < length fs → is_feature id (get_or fs k d) ≡ false)
    → position (is_feature id) fs ≡ None
position_none id [] none = refl
position_none id (f ∷ fs) none =
    let at = position_or_len_is (is_feature id) (f ∷ fs) (length (f ∷ fs)) f (omega arith)
    (λ k l. none k f l) (λ l. absurd (omega arith)) in
    let test : nat_lt (length (f ∷ fs)) (length (f ∷ fs)) ≡ false = grind (arith, nat_tests) in
    ap (λ k. cond (nat_lt k (length (f ∷ fs))) (Some k) None) at
    ∙ ap (λ b. cond b (Some (length (f ∷ fs))) None) test

-- no element of a list has an id where none is found
pub none_at : {X : Type 0} (p : X → Bool) (fs : List X) (k : ℕ) (d : X) → position p fs ≡ None
    → k < length fs → p (get_or fs k d) ≡ false
none_at p fs k d none within = fails_before_first p fs k d (by (nat_lt (position_or_len p fs) (length fs))
    refl none)
  where
    by : (b : Bool) → nat_lt (position_or_len p fs) (length fs) ≡ b
        → cond b (Some (position_or_len p fs)) None ≡ None → k < position_or_len p fs
    by true e h = absurd cc
    by false e h = let over : length fs ≤ position_or_len p fs = grind (arith, nat_tests, e) in
        omega (arith, within, over)

-- ids before one place are less than a number, and those from another on aren't
pub record IsNarrowed (fs : List Feature) (id low high : ℕ) : Type 0 where
  pub order : low ≤ high
  pub within : high ≤ length fs
  pub below : (k : ℕ) (d : Feature) → k < low → (get_or fs k d).id < id
  pub above : (k : ℕ) (d : Feature) → high ≤ k → k < length fs → id ≤ (get_or fs k d).id

pub narrowed_first : (fs : List Feature) (id : ℕ) → IsNarrowed fs id 0 (length fs)
narrowed_first fs id = record {
  order = omega arith;
  within = omega arith;
  below = λ k d l. absurd (omega arith);
  above = λ k d l m. absurd (omega arith);
}

pub narrowed_below : (fs : List Feature) (id low high m : ℕ) → Ascend (ids_of fs) → IsNarrowed fs id low high
    → m < high → ((d : Feature) → (get_or fs m d).id < id) → IsNarrowed fs id (m + 1) high
narrowed_below fs id low high m h was within is = record {
  order = omega arith;
  within = was.within;
  below = λ k d l. dite (ℕ_discrete k m) (λ e. subst (λ n. (get_or fs n d).id < id) (sym e) (is d))
      (λ ne. let less = ascending_at fs k m d h (omega (arith, ne, l)) (omega (arith, within, was.within)) in
      omega (arith, less, is d));
  above = was.above;
}

pub narrowed_above : (fs : List Feature) (id low high m : ℕ) → Ascend (ids_of fs) → IsNarrowed fs id low high
    → low ≤ m → m < high → ((d : Feature) → id ≤ (get_or fs m d).id) → IsNarrowed fs id low m
narrowed_above fs id low high m h was from within is = record {
  order = from;
  within = omega (arith, within, was.within);
  below = was.below;
  above = λ k d l inside. dite (ℕ_discrete k m) (λ e. subst (λ n. id ≤ (get_or fs n d).id) (sym e) (is d))
      (λ ne. let less = ascending_at fs m k d h (omega (arith, ne, l)) inside in omega (arith, less, is d));
}

less_differs : (a b : ℕ) → a < b → (a == b) ≡ false
less_differs a b h = grind (arith, nat_tests)

greater_differs : (a b : ℕ) → b < a → (a == b) ≡ false
greater_differs a b h = grind (arith, nat_tests)

pub narrowed_found : (fs : List Feature) (id low high : ℕ) → IsNarrowed fs id low high → low < length fs
    → ((d : Feature) → (get_or fs low d).id ≡ id) → position (is_feature id) fs ≡ Some low
narrowed_found fs id low high was within is =
    position_at id fs low within (λ d. let e = is d in grind (arith, nat_tests))
    (λ k d l. less_differs _ _ (was.below k d l))

pub narrowed_end : (fs : List Feature) (id low high : ℕ) → IsNarrowed fs id low high → length fs ≤ low
    → position (is_feature id) fs ≡ None
narrowed_end fs id low high was over =
    position_none id fs (λ k d l. less_differs _ _ (was.below k d (omega (arith, l, over))))

pub narrowed_none : (fs : List Feature) (id low high : ℕ) → Ascend (ids_of fs) → IsNarrowed fs id low high
    → high ≤ low → ((d : Feature) → low < length fs → ((get_or fs low d).id ≡ id) → ⊥)
    → position (is_feature id) fs ≡ None
narrowed_none fs id low high h was met other =
    position_none id fs (λ k d l. dite (dec_le low k)
    (λ from. let at_least = was.above low d met in greater k d l from) (λ before. less_differs _ _ (was.below k
    d (omega (arith, before)))))
  where
    greater : (k : ℕ) (d : Feature) → k < length fs → low ≤ k → ((get_or fs k d).id == id) ≡ false
    greater k d l from =
        let here = was.above low d met (omega (arith, l, from)) in
        let differs = other d (omega (arith, l, from)) in
        let above : id < (get_or fs low d).id = omega (arith, here, differs) in
        dite (ℕ_discrete k low) (λ e. greater_differs _ _ (subst (λ n. id < (get_or fs n d).id) (sym e) above))
        (λ ne. greater_differs _ _ (let less = ascending_at fs low k d h (omega (arith, ne, from)) l in
        omega (arith, less, above)))

-- ---- a part of a stretch of features

some_feature : Feature
some_feature = record { id = 0; geometry = None; values = [] }

-- some of the ids from a place on, of which there are so many, are ids from a later place on
part_is : (ids : List ℕ) (start skip count whole : ℕ) → skip + count ≤ whole
    → take count (drop skip (take whole (drop start ids))) ≡ take count (drop (start + skip) ids)
part_is ids start skip count whole h =
    let rest : whole ≡ skip + (whole - skip) = omega (arith, h) in
    ap (λ n. take count (drop skip (take n (drop start ids)))) rest
    ∙ ap (λ l. take count l) (drop-take skip (whole - skip) (drop start ids))
    ∙ take-take count (whole - skip) (drop skip (drop start ids)) (omega (arith, h))
    ∙ ap (λ l. take count l) (drop-drop skip start ids)

id_in : (fs : List Feature) (start skip count : ℕ) → skip < count → start + count ≤ length fs
    → get_or (take count (drop start (ids_of fs))) skip 0 ≡ (get_or fs (start + skip) some_feature).id
id_in fs start skip count less within =
    get_or-take count (drop start (ids_of fs)) skip 0 less ∙ get_or-drop start (ids_of fs) skip 0
    ∙ get_or-map (λ (f : Feature). f.id) fs (start + skip) some_feature 0 (omega (arith, less, within))

pub cut_is : (fs : List Feature) (w : Stretch) (start from to least greatest : ℕ)
    → IsStretch w (take w.count (drop start (ids_of fs))) → start + w.count ≤ length fs → start ≤ from → from < to
    → to ≤ start + w.count
    → (from ≡ start → least ≡ w.least) → ((from ≡ start → ⊥) → (d : Feature) → least ≡ (get_or fs from d).id)
    → (to ≡ start + w.count → greatest ≡ w.greatest)
    → ((to ≡ start + w.count → ⊥) → (d : Feature) → greatest ≡ (get_or fs (to - 1) d).id)
    → IsStretch (record { count = to - from; least = least; greatest = greatest })
    (take (to - from) (drop from (ids_of fs)))
cut_is fs w start from to least greatest h within before some after least_whole least_is greatest_whole greatest_is =
    let ids = ids_of fs in
    let skip = from - start in
    let count = to - from in
    let at : start + skip ≡ from = omega (arith, before) in
    let end : skip + count ≤ w.count = omega (arith, before, some, after) in
    let long = h.counted in
    subst (IsStretch _) (part_is ids start skip count w.count end ∙ ap (λ n. take count (drop n ids)) at)
    (part_of_stretch w (take w.count (drop start ids)) skip count least greatest 0 h (omega (arith, some))
    (omega (arith, end, long))
    (λ l. least_is (λ e. absurd (omega (arith, l, e))) some_feature
    ∙ ap (λ n. (get_or fs n some_feature).id) (sym at)
    ∙ sym (id_in fs start skip w.count (omega (arith, end, some)) within))
    (λ e. least_whole (omega (arith, e, before)))
    (λ l. greatest_is (λ e. absurd (omega (arith, l, e, before, some))) some_feature
    ∙ ap (λ n. (get_or fs n some_feature).id) (let last : to - 1 ≡ start + (skip + count - 1) = omega (arith, before, some) in last)
    ∙ sym (id_in fs start (skip + count - 1) w.count (omega (arith, end, some)) within))
    (λ e. greatest_whole (omega (arith, e, before, some))))

-- ---- runs that stand side by side

-- an element of a run is that of the list
pub run_at : {X : Type 0} (fs : List X) (at : ℕ) (run : List X) (k : ℕ) (d : X) → IsRunFrom fs at run
    → k < length run → get_or fs (at + k) d ≡ get_or run k d
run_at fs at run k d is within =
    sym (get_or-drop at fs k d) ∙ sym (get_or-take (length run) (drop at fs) k d within)
    ∙ ap (λ l. get_or l k d) is.same

pub run_within : {X : Type 0} (fs : List X) (at : ℕ) (run : List X) → IsRunFrom fs at run
    → at + length run ≤ length fs
run_within fs at run is =
    let long = ap length is.same in
    let cut = length-take (length run) (drop at fs) in
    let rest = length-drop at fs in
    grind (arith, long, cut, rest, is.some)

-- ---- a pass by parts

-- an element of a part is that of the list
pub part_at : (fs : List Feature) (start count k : ℕ) (d : Feature) → k < count
    → get_or (take count (drop start fs)) k d ≡ get_or fs (start + k) d
part_at fs start count k d l = get_or-take count (drop start fs) k d l ∙ get_or-drop start fs k d

pub part_long : (fs : List Feature) (start count : ℕ) → start + count ≤ length fs
    → length (take count (drop start fs)) ≡ count
part_long fs start count within =
    let rest = length-drop start fs in length-take-le count (drop start fs) (omega (arith, rest, within))

-- the ids of a part
pub part_ids : (fs : List Feature) (start count : ℕ)
    → ids_of (take count (drop start fs)) ≡ take count (drop start (ids_of fs))
part_ids fs start count =
    sym (take-map (λ (f : Feature). f.id) count (drop start fs))
    ∙ ap (λ l. take count l) (sym (drop-map (λ (f : Feature). f.id) start fs))

-- what a pass knows behind a part in which the id isn't
pub passed_more : (id : ℕ) (fs : List Feature) (start count : ℕ) → start + count ≤ length fs
    → position (is_feature id) (take count (drop start fs)) ≡ None
    → ((k : ℕ) (d : Feature) → k < start → is_feature id (get_or fs k d) ≡ false)
    → (k : ℕ) (d : Feature) → k < start + count → is_feature id (get_or fs k d) ≡ false
passed_more id fs start count within none before k d l = dite (dec_le start k)
    (λ from.
    let j : start + (k - start) ≡ k = omega (arith, from) in
    ap (λ n. is_feature id (get_or fs n d)) (sym j)
    ∙ ap (is_feature id) (sym (part_at fs start count (k - start) d (omega (arith, from, l))))
    ∙ none_at (is_feature id) (take count (drop start fs)) (k - start) d none
    (let long = part_long fs start count within in omega (arith, from, l, long)))
    (λ early. before k d (omega (arith, early)))

-- and what it finds in one
pub passed_found : (id : ℕ) (fs : List Feature) (start count place : ℕ) → start + count ≤ length fs
    → position (is_feature id) (take count (drop start fs)) ≡ Some place
    → ((k : ℕ) (d : Feature) → k < start → is_feature id (get_or fs k d) ≡ false)
    → position (is_feature id) fs ≡ Some (start + place)
passed_found id [] start count place within h before =
    absurd (some (take count (drop start [])) (let long = part_long [] start count within in omega (arith, long, within)) h)
  where
    some : (fs : List Feature) → length fs ≡ 0 → position (is_feature id) fs ≡ Some place → ⊥
    some [] none e = grind (arith, e)
    some (f ∷ fs) none e = omega (arith, none)
passed_found id (f ∷ fs) start count place within h before =
    let all = f ∷ fs in
    let part = take count (drop start all) in
    let long = part_long all start count within in
    let known = position-Some (is_feature id) part place f h in
    let inside : place < count = omega (arith, known.0, long) in
    position_at id all (start + place) (omega (arith, inside, within))
    (λ d. ap (is_feature id) (sym (part_at all start count place d inside))
    ∙ (position-Some (is_feature id) part place d h).1)
    (λ k d l. dite (dec_le start k)
    (λ from.
    let j : start + (k - start) ≡ k = omega (arith, from) in
    ap (λ n. is_feature id (get_or all n d)) (sym j)
    ∙ ap (is_feature id) (sym (part_at all start count (k - start) d (omega (arith, from, l, inside))))
    ∙ (position-Some (is_feature id) part place d h).2 (k - start) (omega (arith, l, from)))
    (λ early. before k d (omega (arith, early))))

-- no id of a stretch is beyond its bounds
pub none_beyond : (s : Stretch) (id : ℕ) (fs : List Feature) → IsStretch s (ids_of fs)
    → ((s.least ≤ id) × (id ≤ s.greatest) → ⊥) → position (is_feature id) fs ≡ None
none_beyond s id fs h beyond = position_none id fs
    (λ k d l.
    let above = all_at (λ y. s.least ≤ y) fs k d h.above l in
    let below = all_at (λ y. y ≤ s.greatest) fs k d h.below l in
    dite (ℕ_discrete (get_or fs k d).id id)
    (λ e. absurd (beyond (omega (arith, e, above), omega (arith, e, below))))
    (λ ne. grind (arith, nat_tests, ne)))
  where
    all_at : (P : ℕ → Type 0) (fs : List Feature) (k : ℕ) (d : Feature) → AllByRecursion P (ids_of fs) → k < length fs
        → P (get_or fs k d).id
    all_at P [] k d h l = absurd (omega (arith, l))
    all_at P (f ∷ fs) zero d h l = h.0
    all_at P (f ∷ fs) (suc k) d h l = all_at P fs k d h.1 (omega (arith, l))

-- a list with another element at a place
pub set_is : {X : Type 0} → (made texts : List X) (n : ℕ) (value : X) → n < length texts
    → made ≡ (take n texts ++ value ∷ []) ++ drop (n + 1) texts → made ≡ set texts n value
set_is made texts n value within is =
    is ∙ append_assoc (take n texts) (value ∷ []) (drop (n + 1) texts)
    ∙ (let e : n + 1 ≡ suc n = omega arith in ap (λ k. take n texts ++ value ∷ drop k texts) e)
    ∙ sym (set_split texts n value within)
