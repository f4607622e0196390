-- Lists whose elements have distinct numbers: where one is found, and what a change at its place is.
use Rattle.std.proofs.Common.{◌≡◌, ◌∙◌, sym, ap, refl, ℕ, zero, suc, ◌<◌, ◌≤◌, ◌==◌, Bool, true, false, not}
use Rattle.std.proofs.Common.{List, [], ◌∷◌, length, Some, None, arith, cond, set, ◌||◌, map, filter, nat_lt}
use Rattle.std.specs.Prelude.{insert, remove, position, nat_eq, slice_index_or as get_or, slice_get, find}
use Rattle.std.specs.Prelude.{if◌then◌else◌, is_some}
use Rattle.std.specs.List.{list_any, AllByRecursion, IsDistinct, position_or_len}
use Rattle.std.proofs.lemmas.Bool.{false≢true}
use Rattle.std.proofs.lemmas.Bool.Decides.{nat_tests}
use Rattle.std.proofs.lemmas.List.Quantifiers.{position-Some}
use Rattle.std.proofs.lemmas.List.Sums.{fails_before_first}
use Rattle.std.proofs.lemmas.Option.{get_or_from_slice_get}

-- what stands at a place within a list
pub got : {X : Type 0} (xs : List X) (n : ℕ) → n < length xs → (x : X) × (slice_get xs n ≡ Some x)
got [] n within = absurd (omega arith)
got (x ∷ xs) zero within = (x, refl)
got (x ∷ xs) (suc n) within = got xs n (omega arith)

-- at one place stands one element
pub one_at : {X : Type 0} (xs : List X) (n : ℕ) (a b : X) → slice_get xs n ≡ Some a → slice_get xs n ≡ Some b
    → a ≡ b
one_at xs n a b h g = sym (get_or_from_slice_get xs n a b h) ∙ get_or_from_slice_get xs n b b g

module _ {X : Type 0} (key : X → ℕ) where
  abbrev pub has : ℕ → X → Bool
  has q x = key x == q

  -- the first element with this number stands at the place
  abbrev pub IsAt : ℕ → List X → ℕ → Type 0
  IsAt q [] n = ⊥
  IsAt q (x ∷ xs) zero = has q x ≡ true
  IsAt q (x ∷ xs) (suc n) = (has q x ≡ false) × IsAt q xs n

  -- no element has the number
  abbrev pub Lacks : ℕ → List X → Type 0
  Lacks q xs = AllByRecursion (λ x. has q x ≡ false) xs

  at_from : (q : ℕ) (xs : List X) (d : X) (n : ℕ) → n < length xs → has q (get_or xs n d) ≡ true
      → ((k : ℕ) → k < n → has q (get_or xs k d) ≡ false) → IsAt q xs n
  at_from q [] d n within is before = absurd (omega arith)
  at_from q (x ∷ xs) d zero within is before = is
  at_from q (x ∷ xs) d (suc n) within is before =
      (before 0 (omega arith), at_from q xs d n (omega arith) is (λ k l. before (suc k) (omega arith)))

  pub at_position : (q : ℕ) (xs : List X) (n : ℕ) → position (has q) xs ≡ Some n → IsAt q xs n
  at_position q [] n h = absurd cc
  at_position q (x ∷ xs) n h =
      let known = position-Some (has q) (x ∷ xs) n x h in
      at_from q (x ∷ xs) x n known.0 known.1 known.2

  pub at_within : (q : ℕ) (xs : List X) (n : ℕ) → IsAt q xs n → n < length xs
  at_within q [] n h = absurd h
  at_within q (x ∷ xs) zero h = omega arith
  at_within q (x ∷ xs) (suc n) h = let more = at_within q xs n h.1 in omega arith

  -- no element has a number that is found at no place
  none_at : (q : ℕ) (xs : List X) (k : ℕ) (d : X) → position (has q) xs ≡ None → k < length xs
      → has q (get_or xs k d) ≡ false
  none_at q xs k d none within = fails_before_first (has q) xs k d (by (nat_lt (position_or_len (has q) xs) (length
      xs)) refl none)
    where
      by : (b : Bool) → nat_lt (position_or_len (has q) xs) (length xs) ≡ b
          → cond b (Some (position_or_len (has q) xs)) None ≡ None → k < position_or_len (has q) xs
      by true e h = absurd cc
      by false e h = let over : length xs ≤ position_or_len (has q) xs = grind (arith, nat_tests, e) in
          omega (arith, within, over)

  lacks_from : (q : ℕ) (xs : List X) → ((k : ℕ) (d : X) → k < length xs → has q (get_or xs k d) ≡ false)
      → Lacks q xs
  lacks_from q [] h = tt
  lacks_from q (x ∷ xs) h =
      (h 0 x (omega arith), lacks_from q xs (λ k d l. h (suc k) d (omega (arith, l))))

  pub lacks_position : (q : ℕ) (xs : List X) → position (has q) xs ≡ None → Lacks q xs
  lacks_position q xs h = lacks_from q xs (λ k d l. none_at q xs k d h l)

  pub lacks_any : (q : ℕ) (xs : List X) → list_any (has q) xs ≡ false → Lacks q xs
  lacks_any q [] h = tt
  lacks_any q (x ∷ xs) h = by (has q x) refl h (lacks_any q xs)
    where
      by : (b : Bool) → has q x ≡ b → (b || list_any (has q) xs) ≡ false
          → (list_any (has q) xs ≡ false → Lacks q xs) → (has q x ≡ false) × Lacks q xs
      by true e g more = absurd (false≢true (sym g))
      by false e g more = (e, more g)

  pub any_lacks : (q : ℕ) (xs : List X) → Lacks q xs → list_any (has q) xs ≡ false
  any_lacks q [] h = refl
  any_lacks q (x ∷ xs) h = ap (λ b. b || list_any (has q) xs) h.0 ∙ any_lacks q xs h.1

  pub find_lacks : (q : ℕ) (xs : List X) → Lacks q xs → find (has q) xs ≡ None
  find_lacks q [] h = refl
  find_lacks q (x ∷ xs) h = ap (λ b. cond b (Some x) (find (has q) xs)) h.0 ∙ find_lacks q xs h.1

  -- whether one is found
  pub any_found : (q : ℕ) (xs : List X) → list_any (has q) xs ≡ is_some (find (has q) xs)
  any_found q [] = refl
  any_found q (x ∷ xs) = by (has q x) (any_found q xs)
    where
      by : (b : Bool) → list_any (has q) xs ≡ is_some (find (has q) xs)
          → (b || list_any (has q) xs) ≡ is_some (cond b (Some x) (find (has q) xs))
      by true more = refl
      by false more = more

  -- the one at the place is found
  pub find_at : (q : ℕ) (xs : List X) (n : ℕ) (x : X) → IsAt q xs n → slice_get xs n ≡ Some x
      → find (has q) xs ≡ Some x
  find_at q [] n x h e = absurd h
  find_at q (y ∷ xs) zero x h e = ap (λ b. cond b (Some y) (find (has q) xs)) h ∙ e
  find_at q (y ∷ xs) (suc n) x h e =
      ap (λ b. cond b (Some y) (find (has q) xs)) h.0 ∙ find_at q xs n x h.1 e

  pub key_at : (q : ℕ) (xs : List X) (n : ℕ) (x : X) → IsAt q xs n → slice_get xs n ≡ Some x → key x ≡ q
  key_at q [] n x h e = absurd h
  key_at q (y ∷ xs) zero x h e = let is : y ≡ x = cc in ap key (sym is) ∙ grind (arith, nat_tests, h)
  key_at q (y ∷ xs) (suc n) x h e = key_at q xs n x h.1 e

  lacks_behind : (q : ℕ) (x : X) (xs : List X) → has q x ≡ true
      → AllByRecursion (λ y. nat_eq (key x) y ≡ false) (map key xs) → Lacks q xs
  lacks_behind q x [] is h = tt
  lacks_behind q x (y ∷ xs) is h = (grind (arith, nat_tests, is, h.0), lacks_behind q x xs is h.1)

  change_lacks : (q : ℕ) (f : X → X) (xs : List X) → Lacks q xs
      → map (λ x. if has q x then f x else x) xs ≡ xs
  change_lacks q f [] h = refl
  change_lacks q f (x ∷ xs) h = λ i. ap (λ b. if b then f x else x) h.0 i ∷ change_lacks q f xs h.1 i

  -- a change of the one element with a number is a change at its place
  pub change_at : (q : ℕ) (f : X → X) (xs : List X) (n : ℕ) (x : X) → IsDistinct nat_eq (map key xs)
      → IsAt q xs n → slice_get xs n ≡ Some x → map (λ y. if has q y then f y else y) xs ≡ set xs n (f x)
  unfolding IsDistinct
  change_at q f [] n x d h e = absurd h
  change_at q f (y ∷ xs) zero x d h e =
      let is : y ≡ x = cc in
      λ i. (ap (λ b. if b then f y else y) h ∙ ap f is) i ∷ change_lacks q f xs (lacks_behind q y xs h d.0) i
  change_at q f (y ∷ xs) (suc n) x d h e =
      λ i. ap (λ b. if b then f y else y) h.0 i ∷ change_at q f xs n x d.1 h.1 e i

  without_lacks : (q : ℕ) (xs : List X) → Lacks q xs → filter (λ x. not (has q x)) xs ≡ xs
  without_lacks q [] h = refl
  without_lacks q (x ∷ xs) h =
      ap (λ b. cond (not b) (x ∷ filter (λ x. not (has q x)) xs) (filter (λ x. not (has q x)) xs)) h.0
      ∙ ap (λ l. x ∷ l) (without_lacks q xs h.1)

  -- the list without the one element with a number
  pub without_at : (q : ℕ) (xs : List X) (n : ℕ) → IsDistinct nat_eq (map key xs) → IsAt q xs n
      → filter (λ x. not (has q x)) xs ≡ remove xs n
  unfolding IsDistinct
  without_at q [] n d h = absurd h
  without_at q (x ∷ xs) zero d h =
      ap (λ b. cond (not b) (x ∷ filter (λ x. not (has q x)) xs) (filter (λ x. not (has q x)) xs)) h
      ∙ without_lacks q xs (lacks_behind q x xs h d.0)
  without_at q (x ∷ xs) (suc n) d h =
      ap (λ b. cond (not b) (x ∷ filter (λ x. not (has q x)) xs) (filter (λ x. not (has q x)) xs)) h.0
      ∙ ap (λ l. x ∷ l) (without_at q xs n d.1 h.1)

  -- ---- what is found behind a change

  -- another element at a place, of the same number: another number is found as before
  pub find_set_other : (q : ℕ) (xs : List X) (n : ℕ) (x y : X) → slice_get xs n ≡ Some x → key y ≡ key x
      → nat_eq (key x) q ≡ false → find (has q) (set xs n y) ≡ find (has q) xs
  find_set_other q [] n x y e same other = refl
  find_set_other q (z ∷ xs) zero x y e same other =
      let is : z ≡ x = cc in
      ap (λ b. cond b (Some y) (find (has q) xs)) (ap (λ k. k == q) same ∙ other)
      ∙ sym (ap (λ b. cond b (Some z) (find (has q) xs)) (ap (has q) is ∙ other))
  find_set_other q (z ∷ xs) (suc n) x y e same other =
      ap (λ o. cond (has q z) (Some z) o) (find_set_other q xs n x y e same other)

  -- and its own number is found there
  pub at_set : (q : ℕ) (xs : List X) (n : ℕ) (y : X) → IsAt q xs n → key y ≡ q → IsAt q (set xs n y) n
  at_set q [] n y h is = absurd h
  at_set q (x ∷ xs) zero y h is = grind (arith, nat_tests, is)
  at_set q (x ∷ xs) (suc n) y h is = (h.0, at_set q xs n y h.1 is)

  pub get_set : (xs : List X) (n : ℕ) (y : X) → n < length xs → slice_get (set xs n y) n ≡ Some y
  get_set [] n y within = absurd (omega arith)
  get_set (x ∷ xs) zero y within = refl
  get_set (x ∷ xs) (suc n) y within = get_set xs n y (omega arith)

  -- without the element at a place
  pub find_remove_other : (q : ℕ) (xs : List X) (n : ℕ) (x : X) → slice_get xs n ≡ Some x
      → nat_eq (key x) q ≡ false → find (has q) (remove xs n) ≡ find (has q) xs
  find_remove_other q [] zero x e other = refl
  find_remove_other q [] (suc n) x e other = refl
  find_remove_other q (z ∷ xs) zero x e other =
      let is : z ≡ x = cc in
      sym (ap (λ b. cond b (Some z) (find (has q) xs)) (ap (has q) is ∙ other))
  find_remove_other q (z ∷ xs) (suc n) x e other =
      ap (λ o. cond (has q z) (Some z) o) (find_remove_other q xs n x e other)

  pub lacks_remove : (q : ℕ) (xs : List X) (n : ℕ) → IsDistinct nat_eq (map key xs) → IsAt q xs n
      → Lacks q (remove xs n)
  unfolding IsDistinct
  lacks_remove q [] n d h = absurd h
  lacks_remove q (x ∷ xs) zero d h = lacks_behind q x xs h d.0
  lacks_remove q (x ∷ xs) (suc n) d h = (h.0, lacks_remove q xs n d.1 h.1)

  -- with an element put in
  pub find_insert_other : (q : ℕ) (xs : List X) (n : ℕ) (y : X) → has q y ≡ false
      → find (has q) (insert xs n y) ≡ find (has q) xs
  find_insert_other q xs zero y other = ap (λ b. cond b (Some y) (find (has q) xs)) other
  find_insert_other q [] (suc n) y other = ap (λ b. cond b (Some y) None) other
  find_insert_other q (x ∷ xs) (suc n) y other =
      ap (λ o. cond (has q x) (Some x) o) (find_insert_other q xs n y other)

  pub find_insert : (q : ℕ) (xs : List X) (n : ℕ) (y : X) → Lacks q xs → has q y ≡ true
      → find (has q) (insert xs n y) ≡ Some y
  find_insert q xs zero y h is = ap (λ b. cond b (Some y) (find (has q) xs)) is
  find_insert q [] (suc n) y h is = ap (λ b. cond b (Some y) None) is
  find_insert q (x ∷ xs) (suc n) y h is =
      ap (λ b. cond b (Some x) (find (has q) (insert xs n y))) h.0 ∙ find_insert q xs n y h.1 is

  -- ---- distinct numbers

  all_insert : (P : ℕ → Type 0) (xs : List X) (n : ℕ) (y : X) → AllByRecursion P (map key xs) → P (key y)
      → AllByRecursion P (map key (insert xs n y))
  all_insert P xs zero y h g = (g, h)
  all_insert P [] (suc n) y h g = (g, tt)
  all_insert P (x ∷ xs) (suc n) y h g = (h.0, all_insert P xs n y h.1 g)

  all_remove : (P : ℕ → Type 0) (xs : List X) (n : ℕ) → AllByRecursion P (map key xs)
      → AllByRecursion P (map key (remove xs n))
  all_remove P [] zero h = h
  all_remove P [] (suc n) h = h
  all_remove P (x ∷ xs) zero h = h.1
  all_remove P (x ∷ xs) (suc n) h = (h.0, all_remove P xs n h.1)

  turned : (xs : List X) (q : ℕ) → Lacks q xs → AllByRecursion (λ k. nat_eq q k ≡ false) (map key xs)
  turned [] q h = tt
  turned (x ∷ xs) q h = (grind (arith, nat_tests, h.0), turned xs q h.1)

  pub distinct_insert : (xs : List X) (n : ℕ) (y : X) → IsDistinct nat_eq (map key xs) → Lacks (key y) xs
      → IsDistinct nat_eq (map key (insert xs n y))
  unfolding IsDistinct
  distinct_insert xs zero y d h = (turned xs (key y) h, d)
  distinct_insert [] (suc n) y d h = (tt, tt)
  distinct_insert (x ∷ xs) (suc n) y d h =
      (all_insert (λ z. nat_eq (key x) z ≡ false) xs n y d.0 h.0, distinct_insert xs n y d.1 h.1)

  pub distinct_remove : (xs : List X) (n : ℕ) → IsDistinct nat_eq (map key xs)
      → IsDistinct nat_eq (map key (remove xs n))
  unfolding IsDistinct
  distinct_remove [] zero d = d
  distinct_remove [] (suc n) d = d
  distinct_remove (x ∷ xs) zero d = d.1
  distinct_remove (x ∷ xs) (suc n) d =
      (all_remove (λ z. nat_eq (key x) z ≡ false) xs n d.0, distinct_remove xs n d.1)

  pub keys_set : (xs : List X) (n : ℕ) (x y : X) → slice_get xs n ≡ Some x → key y ≡ key x
      → map key (set xs n y) ≡ map key xs
  keys_set [] zero x y e same = refl
  keys_set [] (suc n) x y e same = refl
  keys_set (z ∷ xs) zero x y e same =
      let is : z ≡ x = cc in ap (λ k. k ∷ map key xs) (same ∙ sym (ap key is))
  keys_set (z ∷ xs) (suc n) x y e same = ap (λ l. key z ∷ l) (keys_set xs n x y e same)

  -- the one that was taken out of a place isn't left
  pub lacks_key : (xs : List X) (n : ℕ) (x : X) → IsDistinct nat_eq (map key xs) → slice_get xs n ≡ Some x
      → Lacks (key x) (remove xs n)
  unfolding IsDistinct
  lacks_key [] n x d e = absurd cc
  lacks_key (z ∷ xs) zero x d e =
      let is : z ≡ x = cc in lacks_behind (key x) z xs (grind (arith, nat_tests, ap key is)) d.0
  lacks_key (z ∷ xs) (suc n) x d e = (apart z xs n d.0 e, lacks_key xs n x d.1 e)
    where
      apart : (z : X) (xs : List X) (n : ℕ) → AllByRecursion (λ y. nat_eq (key z) y ≡ false) (map key xs)
          → slice_get xs n ≡ Some x → has (key x) z ≡ false
      apart z [] n h e = absurd cc
      apart z (y ∷ xs) zero h e = let is : y ≡ x = cc in ap (λ k. key z == k) (sym (ap key is)) ∙ h.0
      apart z (y ∷ xs) (suc n) h e = apart z xs n h.1 e
