-- A row put into a list, place by place.
use Rattle.std.proofs.Common.{◌≡◌, ℕ, zero, suc, ◌+◌, ◌<◌, ◌≤◌, List, [], ◌∷◌, ◌++◌, map, length, get_or, set, take, drop}
use Rattle.std.proofs.Common.{refl, ap, ◌∙◌, arith, add-one}
use Rattle.std.proofs.lemmas.List.{append-nil, take_all, drop_all}
use Rattle.std.proofs.lemmas.List.FromFn.{length-map-range_with_len, get_or-map-range_with_len}
use Rattle.cv_model.specs.Rasters.{row_of}

-- one place more has what an item comes to
put_more : {A B : Type 0} (f : A → B) (xs : List A) (ys : List B) (i : ℕ) (d : A) → i < length xs → i < length ys
    → set (map f (take i xs) ++ drop i ys) i (f (get_or xs i d)) ≡ map f (take (suc i) xs) ++ drop (suc i) ys
put_more f [] ys i d in_xs in_ys = absurd (omega arith)
put_more f (x ∷ xs) [] i d in_xs in_ys = absurd (omega arith)
put_more f (x ∷ xs) (y ∷ ys) zero d in_xs in_ys = refl
put_more f (x ∷ xs) (y ∷ ys) (suc i) d in_xs in_ys =
    ap (λ zs. f x ∷ zs) (put_more f xs ys i d (omega arith) (omega arith))

-- a loop that puts what each item comes to, one place further
pub put_next : {A B : Type 0} (f : A → B) (xs : List A) (ys zs : List B) (i : ℕ) (v : B) (d : A) → length ys ≡ length xs
    → i < length xs → zs ≡ map f (take i xs) ++ drop i ys → v ≡ f (get_or xs i d)
    → set zs i v ≡ map f (take (i + 1) xs) ++ drop (i + 1) ys
put_next f xs ys zs i v d long inside so_far read =
    rw (so_far, read, add-one i) (put_more f xs ys i d inside (rw long inside))

-- and at its end
pub put_all : {A B : Type 0} (f : A → B) (xs : List A) (ys zs : List B) (i : ℕ) → length ys ≡ length xs
    → length xs ≤ i → zs ≡ map f (take i xs) ++ drop i ys → zs ≡ map f xs
put_all f xs ys zs i long end all =
    all ∙ ap (λ ks. map f ks ++ drop i ys) (take_all i xs end)
    ∙ ap (λ ks. map f xs ++ ks) (drop_all i ys (rw long end)) ∙ append-nil (map f xs)

-- a row of w columns, and what stands in one of them
pub row_long : {A : Type 0} (w : ℕ) (f : ℕ → ℕ → A) (j : ℕ) → length (row_of w f j) ≡ w
row_long w f j = length-map-range_with_len (λ i. f i j) 0 w

pub row_item : {A : Type 0} (w : ℕ) (f : ℕ → ℕ → A) (j i : ℕ) (d : A) → i < w → get_or (row_of w f j) i d ≡ f i j
row_item w f j i d below = get_or-map-range_with_len (λ i. f i j) 0 w i i d below (omega arith)
