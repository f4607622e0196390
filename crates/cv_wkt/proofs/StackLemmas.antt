-- A stack in a vector: its last item is the innermost.
use Rattle.std.proofs.Common.{◌≡◌, ℕ, ◌+◌, ◌-◌, List, [], ◌∷◌, ◌++◌, reverse, length, slice_get, Some, refl}
use Rattle.std.proofs.Common.{sym, ap, ◌∙◌, arith, length-append, cond, count_by, sum_by, Bool}
use Rattle.std.proofs.lemmas.List.Sums.{sum_by-append}
use Rattle.std.proofs.lemmas.List.{reverse-append, reverse-reverse}
use Rattle.cv_wkt.specs.Stack.{first_of}

-- one item more
pub reverse_pushed : {A : Type 0} (xs : List A) (x : A) → reverse (xs ++ x ∷ []) ≡ x ∷ reverse xs
reverse_pushed xs x = reverse-append xs (x ∷ [])

-- one item less
pub reverse_popped : {A : Type 0} (xs ys : List A) (x : A) → xs ≡ ys ++ x ∷ [] → reverse xs ≡ x ∷ reverse ys
reverse_popped xs ys x e = ap reverse e ∙ reverse_pushed ys x

last_of : {A : Type 0} (xs : List A) (x : A) → slice_get (xs ++ x ∷ []) (length xs) ≡ Some x
last_of [] x = refl
last_of (y ∷ xs) x = last_of xs x

first_is : {A : Type 0} (ys : List A) → slice_get (reverse ys) (length (reverse ys) - 1) ≡ first_of ys
first_is [] = refl
first_is (y ∷ ys) =
    let e : reverse (y ∷ ys) ≡ reverse ys ++ y ∷ [] = reverse-append (y ∷ []) ys in
    let n : length (reverse ys ++ y ∷ []) - 1 ≡ length (reverse ys) =
    omega (arith, length-append (reverse ys) (y ∷ [])) in
    ap (λ z. slice_get z (length z - 1)) e ∙ ap (slice_get (reverse ys ++ y ∷ [])) n ∙ last_of (reverse ys) y

-- the innermost item
pub reverse_top : {A : Type 0} (xs : List A) → slice_get xs (length xs - 1) ≡ first_of (reverse xs)
reverse_top xs = ap (λ z. slice_get z (length z - 1)) (sym (reverse-reverse xs)) ∙ first_is (reverse xs)

-- counting doesn't mind the order
sum_reverse : {A : Type 0} (f : A → ℕ) (xs : List A) → sum_by f (reverse xs) ≡ sum_by f xs
sum_reverse f [] = refl
sum_reverse f (x ∷ xs) =
    let e : reverse (x ∷ xs) ≡ reverse xs ++ x ∷ [] = reverse-append (x ∷ []) xs in
    let parts = sum_by-append f (reverse xs) (x ∷ []) in
    let all : sum_by f (x ∷ xs) ≡ sum_by f (x ∷ []) + sum_by f xs = sum_by-append f (x ∷ []) xs in
    ap (sum_by f) e ∙ omega (arith, sum_reverse f xs, parts, all)

-- a count doesn't look at the order
pub count_reverse : {A : Type 0} (p : A → Bool) (xs : List A) → count_by p (reverse xs) ≡ count_by p xs
count_reverse p xs = sum_reverse (λ y. cond (p y) 1 0) xs
