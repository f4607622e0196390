-- Lists, and a change at a place.
use Rattle.std.proofs.Common.{◌≡◌, ◌∙◌, sym, ap, refl, subst, ℕ, zero, suc, ◌+◌, ◌<◌, ◌≤◌, List, [], ◌∷◌, ◌++◌, length, map}
use Rattle.std.proofs.Common.{Some, None, slice_get, slice_index_or, slice_set, arith}
use Rattle.std.proofs.Common.{take, drop}
use Rattle.std.proofs.lemmas.List.{length-append, length-map, length-take, length-drop, get_or_default}
use Rattle.std.proofs.lemmas.List.Edits.{map_over_more}
use Rattle.cv_event.specs.States.{change_at}

-- a write at a place
pub changed : {A : Type 0} (f : A → A) (xs : List A) (i : ℕ) (x y : A) → x ≡ slice_index_or xs i x → y ≡ f x
    → slice_set xs i y ≡ change_at i f xs
changed f [] i x y at is = refl
changed f (z ∷ zs) zero x y at is = ap (λ w. w ∷ zs) (is ∙ ap f at)
changed f (z ∷ zs) (suc i) x y at is = ap (λ w. z ∷ w) (changed f zs i x y at is)

-- a write of what is there
pub same_set : {A : Type 0} (xs : List A) (i : ℕ) (x y : A) → x ≡ slice_index_or xs i x → y ≡ x → slice_set xs i y ≡ xs
same_set [] i x y at is = refl
same_set (z ∷ zs) zero x y at is = ap (λ w. w ∷ zs) (is ∙ at)
same_set (z ∷ zs) (suc i) x y at is = ap (λ w. z ∷ w) (same_set zs i x y at is)

-- no change past the end
pub unchanged : {A : Type 0} (f : A → A) (xs : List A) (i : ℕ) → length xs ≤ i → change_at i f xs ≡ xs
unchanged f [] i far = refl
unchanged f (x ∷ xs) zero far = absurd (omega (arith, far))
unchanged f (x ∷ xs) (suc i) far = ap (λ l. x ∷ l) (unchanged f xs i (omega (arith, far)))

-- what is read is what is there
pub got : {A : Type 0} (xs : List A) (i : ℕ) (x : A) → i < length xs → x ≡ slice_index_or xs i x → slice_get xs i ≡ Some x
got [] i x within at = absurd (omega (arith, within))
got (y ∷ ys) zero x within at = ap Some (sym at)
got (y ∷ ys) (suc i) x within at = got ys i x (omega (arith, within)) at

pub past : {A : Type 0} (xs : List A) (i : ℕ) → length xs ≤ i → slice_get xs i ≡ None
past [] i far = refl
past (x ∷ xs) zero far = absurd (omega (arith, far))
past (x ∷ xs) (suc i) far = past xs i (omega (arith, far))

pub within : {A : Type 0} (xs : List A) (i : ℕ) (x : A) → slice_get xs i ≡ Some x → i < length xs
within [] i x is = absurd cc
within (y ∷ ys) zero x is = omega arith
within (y ∷ ys) (suc i) x is = omega (arith, within ys i x is)

pub length_change : {A : Type 0} (f : A → A) (xs : List A) (i : ℕ) → length (change_at i f xs) ≡ length xs
length_change f [] i = refl
length_change f (x ∷ xs) zero = refl
length_change f (x ∷ xs) (suc i) = ap suc (length_change f xs i)

-- what a change of one item leaves of all
pub map_change : {A B : Type 0} (g : A → B) (f : A → A) (xs : List A) (i : ℕ) (x : A) → slice_get xs i ≡ Some x
    → g (f x) ≡ g x → map g (change_at i f xs) ≡ map g xs
map_change g f [] i x is same = refl
map_change g f (y ∷ ys) zero x is same =
    let here : y ≡ x = cc in
    ap (λ z. z ∷ map g ys) (subst (λ z. g (f z) ≡ g z) (sym here) same)
map_change g f (y ∷ ys) (suc i) x is same = ap (λ l. g y ∷ l) (map_change g f ys i x is same)

-- a change that every item's image outlives
pub map_change_all : {A B : Type 0} (g : A → B) (f : A → A) (xs : List A) (i : ℕ) → ((x : A) → g (f x) ≡ g x)
    → map g (change_at i f xs) ≡ map g xs
map_change_all g f [] i same = refl
map_change_all g f (y ∷ ys) zero same = ap (λ z. z ∷ map g ys) (same y)
map_change_all g f (y ∷ ys) (suc i) same = ap (λ l. g y ∷ l) (map_change_all g f ys i same)

pub map_map_same : {A B : Type 0} (g : A → B) (f : A → A) (xs : List A) → ((x : A) → g (f x) ≡ g x)
    → map g (map f xs) ≡ map g xs
map_map_same g f [] same = refl
map_map_same g f (x ∷ xs) same = λ i. same x i ∷ map_map_same g f xs same i

-- a write among images
pub map_set : {A B : Type 0} (g : A → B) (f : A → A) (xs : List A) (i : ℕ) (x : A) (y : B) → slice_get xs i ≡ Some x
    → y ≡ g (f x) → slice_set (map g xs) i y ≡ map g (change_at i f xs)
map_set g f [] i x y is at = refl
map_set g f (z ∷ zs) zero x y is at =
    let here : z ≡ x = cc in
    ap (λ w. w ∷ map g zs) (at ∙ ap (λ w. g (f w)) (sym here))
map_set g f (z ∷ zs) (suc i) x y is at = ap (λ l. g z ∷ l) (map_set g f zs i x y is at)

pub length_map : {A B : Type 0} (g : A → B) (xs : List A) → length (map g xs) ≡ length xs
length_map g [] = refl
length_map g (x ∷ xs) = ap suc (length_map g xs)

-- both lists are as long where their images are the same
pub same_length : {A B C : Type 0} (g : A → C) (h : B → C) (xs : List A) (ys : List B) → map g xs ≡ map h ys
    → length xs ≡ length ys
same_length g h xs ys same = sym (length_map g xs) ∙ ap length same ∙ length_map h ys

-- a write at a place, where what is read there is told with any default
pub changed_or : {A : Type 0} (f : A → A) (xs : List A) (i : ℕ) (d y : A) → y ≡ f (slice_index_or xs i d)
    → slice_set xs i y ≡ change_at i f xs
changed_or f [] i d y is = refl
changed_or f (z ∷ zs) zero d y is = ap (λ w. w ∷ zs) is
changed_or f (z ∷ zs) (suc i) d y is = ap (λ w. z ∷ w) (changed_or f zs i d y is)

-- one step of a pass that writes each item
pub rewritten : {A : Type 0} (f : A → A) (was now : List A) (i : ℕ) (y d : A) → i < length was
    → now ≡ map f (take i was) ++ drop i was → y ≡ f (slice_index_or now i d)
    → slice_set now i y ≡ map f (take (i + 1) was) ++ drop (i + 1) was
rewritten f was now i y d below so_far read =
    let long : i < length now = rw so_far (simp (length-append, length-map, length-take, length-drop) (omega arith)) in
    rw read
    (map_over_more f was now i (slice_index_or now i d) below so_far (get_or_default now i d (slice_index_or now i d) long))
