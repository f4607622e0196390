-- Stretches: how they are joined, put behind others and cut, and where one of them stands among the ids.
use Rattle.std.proofs.Common.{◌≡◌, ◌∙◌, sym, ap, subst, refl, ℕ, zero, suc, ◌+◌, ◌-◌, ◌<◌, ◌≤◌}
use Rattle.std.proofs.Common.{List, [], ◌∷◌, ◌++◌, length, take, drop, set, Some, arith}
use Rattle.std.specs.Prelude.{insert, remove, slice_index_or as get_or, slice_get, sum_by}
use Rattle.std.specs.List.{AllByRecursion}
use Rattle.std.proofs.lemmas.List.{take-append-le, drop-append-le, take_all, drop_all, drop-drop}
use Rattle.std.proofs.lemmas.List.{append-nil, length-append, length-take-le, length-take, length-drop, append_assoc}
use Rattle.std.proofs.lemmas.List.{get_or-drop, get_or-take}
use Rattle.std.proofs.lemmas.List.Sums.{sum_by-cons, sum_by-take-le, sum_by_more}
use Rattle.std.proofs.Math.Seq.{take-add}
use mathlib.Core.Logic.{dite}
use native.Mathlib.Decide.{ℕ_discrete}
use Rattle.cv_layer.specs.declared.stretches.Stretch.{Stretch}
use Rattle.cv_layer.specs.Stretches.{Ascend, IsStretch, AreStretches}

-- ---- numbers that ascend, and their bounds

pub all_take : (P : ℕ → Type 0) (n : ℕ) (xs : List ℕ) → AllByRecursion P xs → AllByRecursion P (take n xs)
all_take P zero xs h = tt
all_take P (suc n) [] h = tt
all_take P (suc n) (x ∷ xs) h = (h.0, all_take P n xs h.1)

pub all_drop : (P : ℕ → Type 0) (n : ℕ) (xs : List ℕ) → AllByRecursion P xs → AllByRecursion P (drop n xs)
all_drop P zero xs h = h
all_drop P (suc n) [] h = tt
all_drop P (suc n) (x ∷ xs) h = all_drop P n xs h.1

ascend_take : (n : ℕ) (xs : List ℕ) → Ascend xs → Ascend (take n xs)
ascend_take zero xs h = tt
ascend_take (suc n) [] h = tt
ascend_take (suc n) (x ∷ xs) h = (all_take (λ y. x < y) n xs h.0, ascend_take n xs h.1)

ascend_drop : (n : ℕ) (xs : List ℕ) → Ascend xs → Ascend (drop n xs)
ascend_drop zero xs h = h
ascend_drop (suc n) [] h = tt
ascend_drop (suc n) (x ∷ xs) h = ascend_drop n xs h.1

all_append : (P : ℕ → Type 0) (xs zs : List ℕ) → AllByRecursion P xs → AllByRecursion P zs
    → AllByRecursion P (xs ++ zs)
all_append P [] zs h g = g
all_append P (x ∷ xs) zs h g = (h.0, all_append P xs zs h.1 g)

pub all_weaker : (P Q : ℕ → Type 0) (xs : List ℕ) → ((x : ℕ) → P x → Q x) → AllByRecursion P xs
    → AllByRecursion Q xs
all_weaker P Q [] more h = tt
all_weaker P Q (x ∷ xs) more h = (more x h.0, all_weaker P Q xs more h.1)

ascend_append : (a b : ℕ) (xs zs : List ℕ) → a < b → Ascend xs → Ascend zs → AllByRecursion (λ x. x ≤ a) xs
    → AllByRecursion (λ z. b ≤ z) zs → Ascend (xs ++ zs)
ascend_append a b [] zs less up more below above = more
ascend_append a b (x ∷ xs) zs less up more below above =
    let top : x ≤ a = below.0 in (
      all_append (λ y. x < y) xs zs up.0
          (all_weaker (λ z. b ≤ z) (λ z. x < z) zs (λ z l. omega (arith, l, less, top)) above),
      ascend_append a b xs zs less up.1 more below.1 above,
    )

-- ---- stretches put behind others

joined : (a b : Stretch) (count : ℕ) (xs zs : List ℕ) → count ≡ a.count + b.count → a.greatest < b.least
    → IsStretch a xs → IsStretch b zs
    → IsStretch (record { count = count; least = a.least; greatest = b.greatest }) (xs ++ zs)
joined a b count xs zs is less h g = record {
  counted = let long = length-append xs zs in omega (arith, is, h.counted, g.counted, long);
  ascend = ascend_append a.greatest b.least xs zs less h.ascend g.ascend h.below g.above;
  order = omega (arith, h.order, less, g.order);
  above = all_append (λ x. a.least ≤ x) xs zs h.above
      (all_weaker (λ z. b.least ≤ z) (λ z. a.least ≤ z) zs (λ z l. omega (arith, l, less, h.order)) g.above);
  below = all_append (λ x. x ≤ b.greatest) xs zs
      (all_weaker (λ x. x ≤ a.greatest) (λ x. x ≤ b.greatest) xs (λ x l. omega (arith, l, less, g.order)) h.below)
      g.below;
}

-- a stretch has no more ids than there are
within : (s : Stretch) (ids : List ℕ) → IsStretch s (take s.count ids) → s.count ≤ length ids
within s ids h = let long = length-take s.count ids in omega (arith, h.counted, long)

-- a stretch of some ids alone
alone : (s : Stretch) (ids : List ℕ) → IsStretch s ids → AreStretches (s ∷ []) ids
alone s ids h =
    (subst (IsStretch s) (sym (take_all s.count ids (omega (arith, h.counted)))) h, drop_all s.count ids (omega (arith, h.counted)))

-- and the other way round
of_alone : (s : Stretch) (ids : List ℕ) → AreStretches (s ∷ []) ids → IsStretch s ids
of_alone s ids h = subst (IsStretch s) (take_all s.count ids (over (drop s.count ids) (length-drop s.count ids) h.1)) h.0
  where
    over : (rest : List ℕ) → length rest ≡ length ids - s.count → rest ≡ [] → length ids ≤ s.count
    over rest long none = let no = ap length none in omega (arith, long, no)

-- what stands behind the ids of a first stretch
behind : (y : Stretch) (ss more : List Stretch) (xs zs : List ℕ) → IsStretch y (take y.count xs)
    → AreStretches more (drop y.count xs ++ zs) → AreStretches (y ∷ more) (xs ++ zs)
behind y ss more xs zs h rest =
    let inside = within y xs h in
    (subst (IsStretch y) (sym (take-append-le y.count xs zs inside)) h, subst (AreStretches more) (sym (drop-append-le y.count xs zs inside)) rest)

pub are_pushed : (ss : List Stretch) (b : Stretch) (xs zs : List ℕ) → AreStretches ss xs → IsStretch b zs
    → AreStretches (ss ++ b ∷ []) (xs ++ zs)
are_pushed [] b xs zs h g = alone b (xs ++ zs) (subst (IsStretch b) (sym (ap (λ l. l ++ zs) h)) g)
are_pushed (y ∷ ss) b xs zs h g =
    behind y ss (ss ++ b ∷ []) xs zs h.0 (are_pushed ss b (drop y.count xs) zs h.1 g)

joined_at : (ss : List Stretch) (n : ℕ) (a b : Stretch) (count : ℕ) (xs zs : List ℕ) → suc n ≡ length ss
    → slice_get ss n ≡ Some a → count ≡ a.count + b.count → a.greatest < b.least → AreStretches ss xs
    → IsStretch b zs
    → AreStretches (set ss n (record { count = count; least = a.least; greatest = b.greatest })) (xs ++ zs)
joined_at [] n a b count xs zs last at is less h g = absurd (omega (arith, last))
joined_at (s ∷ t ∷ ss) zero a b count xs zs last at is less h g = absurd (omega (arith, last))
joined_at (s ∷ []) zero a b count xs zs last at is less h g =
    alone _ (xs ++ zs) (joined a b count xs zs is less (subst (λ s. IsStretch s xs) (some at) (of_alone s xs h)) g)
  where
    some : Some s ≡ Some a → s ≡ a
    some e = grind (arith, e)
joined_at (s ∷ ss) (suc n) a b count xs zs last at is less h g =
    behind s ss _ xs zs h.0 (joined_at ss n a b count (drop s.count xs) zs (omega (arith, last)) at is less h.1 g)

pub are_joined : (ss : List Stretch) (n : ℕ) (a b : Stretch) (count : ℕ) (xs zs : List ℕ) → n + 1 ≡ length ss
    → slice_get ss n ≡ Some a → count ≡ a.count + b.count → a.greatest < b.least → AreStretches ss xs
    → IsStretch b zs
    → AreStretches (set ss n (record { count = count; least = a.least; greatest = b.greatest })) (xs ++ zs)
are_joined ss n a b count xs zs last at is less h g =
    joined_at ss n a b count xs zs (omega (arith, last)) at is less h g

-- ---- one of the stretches

-- how many ids stretches have
abbrev pub total : List Stretch → ℕ
total ss = sum_by (λ (s : Stretch). s.count) ss

pub are_counted : (ss : List Stretch) (ids : List ℕ) → AreStretches ss ids → total ss ≡ length ids
are_counted [] ids h = sym (ap length h)
are_counted (s ∷ ss) ids h =
    let rest = are_counted ss (drop s.count ids) h.1 in
    let long = length-drop s.count ids in
    let inside = within s ids h.0 in
    let sum = sum_by-cons (λ (s : Stretch). s.count) s ss in
    omega (arith, rest, long, inside, sum)

stretch_at : (ss : List Stretch) (i : ℕ) (d : Stretch) (ids : List ℕ) → i < length ss → AreStretches ss ids
    → IsStretch (get_or ss i d) (take (get_or ss i d).count (drop (total (take i ss)) ids))
stretch_at [] i d ids inside h = absurd (omega (arith, inside))
stretch_at (s ∷ ss) zero d ids inside h = h.0
stretch_at (s ∷ ss) (suc i) d ids inside h =
    let sum = sum_by-cons (λ (s : Stretch). s.count) s (take i ss) in
    let next = get_or ss i d in
    subst (λ l. IsStretch next (take next.count l))
    (drop-drop (total (take i ss)) s.count ids ∙ ap (λ n. drop n ids) (sym sum))
    (stretch_at ss i d (drop s.count ids) (omega (arith, inside)) h.1)

-- what a pass over the stretches knows of the next one, which starts where those before it end
pub record IsNext (ss : List Stretch) (i start : ℕ) (s : Stretch) (ids : List ℕ) : Type 0 where
  pub is : IsStretch s (take s.count (drop start ids))
  pub within : start + s.count ≤ length ids
  pub end : start + s.count ≡ total (take (i + 1) ss)

pub next_stretch : (ss kept : List Stretch) (i start : ℕ) (d : Stretch) (ids : List ℕ) → ss ≡ kept
    → AreStretches kept ids → i < length ss → start ≡ total (take i ss) → IsNext ss i start (get_or ss i d) ids
next_stretch ss kept i start d ids same are inside at =
    let h = subst (λ l. AreStretches l ids) (sym same) are in
    let more = sum_by_more (λ (s : Stretch). s.count) ss i d inside in
    let all = are_counted ss ids h in
    let some = sum_by-take-le (λ (s : Stretch). s.count) ss (i + 1) in
    record {
      is = subst (λ n. IsStretch (get_or ss i d) (take (get_or ss i d).count (drop n ids))) (sym at)
          (stretch_at ss i d ids inside h);
      within = omega (arith, at, more, all, some);
      end = omega (arith, at, more);
    }

-- and where there is none
pub no_next : (ss kept : List Stretch) (i start : ℕ) (ids : List ℕ) → ss ≡ kept → AreStretches kept ids
    → length ss ≤ i → start ≡ total (take i ss) → start ≡ length ids
no_next ss kept i start ids same are over at =
    at ∙ ap total (take_all i ss over) ∙ are_counted ss ids (subst (λ l. AreStretches l ids) (sym same) are)

-- ---- a part of a stretch

-- ids that ascend are no less than the first one, and no greater than the last one
from_first : (x d : ℕ) (ids : List ℕ) → Ascend ids → x ≤ get_or ids 0 d → AllByRecursion (λ y. x ≤ y) ids
from_first x d [] h is = tt
from_first x d (y ∷ ids) h is =
    let first : x ≤ y = is in
    (first, all_weaker (λ z. y < z) (λ z. x ≤ z) ids (λ z l. omega (arith, l, first)) h.0)

to_last : (x n d : ℕ) (ids : List ℕ) → suc n ≡ length ids → Ascend ids → get_or ids n d ≤ x
    → AllByRecursion (λ y. y ≤ x) ids
to_last x n d [] long h is = tt
to_last x zero d (y ∷ []) long h is = (is, tt)
to_last x zero d (y ∷ z ∷ ids) long h is = absurd (omega (arith, long))
to_last x (suc n) d (y ∷ []) long h is = absurd (omega (arith, long))
to_last x (suc n) d (y ∷ z ∷ ids) long h is =
    let rest = to_last x n d (z ∷ ids) (omega (arith, long)) h.1 is in
    let less : y < z = h.0.0 in
    let top : z ≤ x = rest.0 in
    (omega (arith, less, top), rest)

some_bounds : (low high : ℕ) (ids : List ℕ) → 0 < length ids → AllByRecursion (λ y. low ≤ y) ids
    → AllByRecursion (λ y. y ≤ high) ids → low ≤ high
some_bounds low high [] some above below = absurd (omega (arith, some))
some_bounds low high (y ∷ ids) some above below =
    let a : low ≤ y = above.0 in let b : y ≤ high = below.0 in omega (arith, a, b)

-- the bounds of a part of a stretch: its own where the part begins or ends with it, else the ids there
pub part_of_stretch : (w : Stretch) (ids : List ℕ) (skip count least greatest d : ℕ) → IsStretch w ids → 0 < count
    → skip + count ≤ length ids
    → ((0 < skip) → least ≡ get_or ids skip d) → (skip ≡ 0 → least ≡ w.least)
    → (skip + count < w.count → greatest ≡ get_or ids (skip + count - 1) d)
    → (skip + count ≡ w.count → greatest ≡ w.greatest)
    → IsStretch (record { count = count; least = least; greatest = greatest }) (take count (drop skip ids))
part_of_stretch w ids skip count least greatest d h some inside first whole_first last whole_last =
    let part = take count (drop skip ids) in
    let rest = length-drop skip ids in
    let long = length-take-le count (drop skip ids) (omega (arith, rest, inside)) in
    let up = ascend_take count (drop skip ids) (ascend_drop skip ids h.ascend) in
    let above : AllByRecursion (λ y. least ≤ y) part = dite (ℕ_discrete skip 0)
    (λ e. subst (λ n. AllByRecursion (λ y. n ≤ y) part) (sym (whole_first e))
    (all_take (λ y. w.least ≤ y) count (drop skip ids) (all_drop (λ y. w.least ≤ y) skip ids h.above)))
    (λ ne. from_first least d part up (let e = first (omega (arith, ne)) in let f = part_at 0 (omega (arith, some)) in
    let same : skip + 0 ≡ skip = omega arith in let g = ap (λ n. get_or ids n d) same in omega (arith, e, f, g))) in
    let below : AllByRecursion (λ y. y ≤ greatest) part = dite (ℕ_discrete (skip + count) w.count)
    (λ e. subst (λ n. AllByRecursion (λ y. y ≤ n) part) (sym (whole_last e))
    (all_take (λ y. y ≤ w.greatest) count (drop skip ids) (all_drop (λ y. y ≤ w.greatest) skip ids h.below)))
    (λ ne. to_last greatest (count - 1) d part (omega (arith, long, some)) up
    (let e = last (omega (arith, ne, inside, h.counted)) in let f = part_at (count - 1) (omega (arith, some)) in
    let same : skip + (count - 1) ≡ skip + count - 1 = omega (arith, some) in
    let g = ap (λ n. get_or ids n d) same in omega (arith, e, f, g))) in
    record {
      counted = sym long;
      ascend = up;
      order = some_bounds least greatest part (omega (arith, long, some)) above below;
      above = above;
      below = below;
    }
  where
    part_at : (k : ℕ) → k < count → get_or (take count (drop skip ids)) k d ≡ get_or ids (skip + k) d
    part_at k l = get_or-take count (drop skip ids) k d l ∙ get_or-drop skip ids k d

-- ---- ids with one more, and without one

pub insert_is : (xs : List ℕ) (n y : ℕ) → n ≤ length xs → (take n xs ++ y ∷ []) ++ drop n xs ≡ insert xs n y
insert_is xs zero y h = refl
insert_is [] (suc n) y h = absurd (omega (arith, h))
insert_is (x ∷ xs) (suc n) y h = ap (λ l. x ∷ l) (insert_is xs n y (omega (arith, h)))

pub remove_is : (xs : List ℕ) (n : ℕ) → n < length xs → take n xs ++ drop (suc n) xs ≡ remove xs n
remove_is [] n h = absurd (omega (arith, h))
remove_is (x ∷ xs) zero h = refl
remove_is (x ∷ xs) (suc n) h = ap (λ l. x ∷ l) (remove_is xs n (omega (arith, h)))

-- so many ids from a place on, and those behind them
pub range_more : (from done until : ℕ) (before ids : List ℕ) → from ≤ done → done ≤ until
    → (before ++ take (done - from) (drop from ids)) ++ take (until - done) (drop done ids)
    ≡ before ++ take (until - from) (drop from ids)
range_more from done until before ids first more =
    append_assoc before (take (done - from) (drop from ids)) (take (until - done) (drop done ids))
    ∙ ap (λ l. before ++ l) (
    ap (λ l. take (done - from) (drop from ids) ++ take (until - done) l)
    (ap (λ n. drop n ids) (let e : done ≡ from + (done - from) = omega (arith, first) in e)
    ∙ sym (drop-drop (done - from) from ids))
    ∙ sym (take-add (done - from) (until - done) (drop from ids))
    ∙ ap (λ n. take n (drop from ids)) (let e : (done - from) + (until - done) ≡ until - from = omega (arith, first, more) in e)
    )

-- none from a place on, behind others
pub nothing_more : (from : ℕ) (before ids : List ℕ) (made : List Stretch) → AreStretches made before
    → AreStretches made (before ++ take (from - from) (drop from ids))
nothing_more from before ids made h =
    let none : from - from ≡ 0 = omega arith in
    subst (AreStretches made) (sym (ap (λ n. before ++ take n (drop from ids)) none ∙ append-nil before)) h

-- all from a place on
all_from : (n m : ℕ) (ids : List ℕ) → m ≡ length ids → take (m - n) (drop n ids) ≡ drop n ids
all_from n m ids whole = let rest = length-drop n ids in take_all (m - n) (drop n ids) (omega (arith, rest, whole))

-- the ids before a place, one more, and those from the place on
pub with_one : (ids : List ℕ) (n m y : ℕ) → n ≤ length ids → m ≡ length ids
    → (([] ++ take (n - 0) (drop 0 ids)) ++ y ∷ []) ++ take (m - n) (drop n ids) ≡ insert ids n y
with_one ids n m y inside whole =
    ap (λ l. (([] ++ take (n - 0) (drop 0 ids)) ++ y ∷ []) ++ l) (all_from n m ids whole)
    ∙ ap (λ k. (take k ids ++ y ∷ []) ++ drop n ids) (let e : n - 0 ≡ n = omega arith in e)
    ∙ insert_is ids n y inside

-- the ids before a place and those behind it
pub without_one : (ids : List ℕ) (n m : ℕ) → n < length ids → m ≡ length ids
    → ([] ++ take (n - 0) (drop 0 ids)) ++ take (m - (n + 1)) (drop (n + 1) ids) ≡ remove ids n
without_one ids n m inside whole =
    ap (λ l. ([] ++ take (n - 0) (drop 0 ids)) ++ l) (all_from (n + 1) m ids whole)
    ∙ ap (λ k. take k ids ++ drop (n + 1) ids) (let e : n - 0 ≡ n = omega arith in e)
    ∙ ap (λ k. take n ids ++ drop k ids) (let e : n + 1 ≡ suc n = omega arith in e)
    ∙ remove_is ids n inside
