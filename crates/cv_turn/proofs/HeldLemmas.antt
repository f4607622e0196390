-- Lists of entries by number, and beginnings of one list.
use Rattle.std.proofs.Common.{◌≡◌, ℕ, zero, suc, ◌+◌, ◌-◌, ◌<◌, ◌≤◌, List, [], ◌∷◌, ◌++◌, length, take, drop, eqb, eq-eqb, ne_eqb, refl, sym, ap, ◌∙◌, arith, append_assoc, append-nil, true, false, Bool, ltb}
use Rattle.std.specs.Prelude.{filter, replicate}
use Rattle.std.proofs.lemmas.List.Elements.{filter-append}
use Rattle.std.proofs.lemmas.Bool.{ltb-true, ltb-false}
use Rattle.cv_turn.specs.Held.{StartsWith, longer, entries_by, own_of, grown}

-- equal heads and equal tails make equal lists
cons : {A : Type 0} {x y : A} {xs ys : List A} → x ≡ y → xs ≡ ys → x ∷ xs ≡ y ∷ ys
cons p q = λ i. p i ∷ q i

module _ {E : Type 0} (caller : E → ℕ) where
  -- one more entry is of its caller's number alone
  entries_by-other : (n : ℕ) (xs : List E) (e : E) → (caller e ≡ n → ⊥) → entries_by caller n (xs ++ e ∷ []) ≡ entries_by caller n xs
  entries_by-other n xs e other =
      let none : filter (λ y. eqb (caller y) n) (e ∷ []) ≡ [] = rw (ne_eqb (caller e) n other) refl in
      filter-append (λ y. eqb (caller y) n) xs (e ∷ []) ∙ (ap (λ l. entries_by caller n xs ++ l) none ∙ append-nil (entries_by caller n xs))

  entries_by-same : (n : ℕ) (xs : List E) (e : E) → caller e ≡ n → entries_by caller n (xs ++ e ∷ []) ≡ entries_by caller n xs ++ e ∷ []
  entries_by-same n xs e same =
      let one : filter (λ y. eqb (caller y) n) (e ∷ []) ≡ e ∷ [] = rw (eq-eqb (caller e) n same) refl in
      filter-append (λ y. eqb (caller y) n) xs (e ∷ []) ∙ ap (λ l. entries_by caller n xs ++ l) one

  -- numbers that an entry is not of keep their entries
  pub own_of-other : (n count : ℕ) (xs : List E) (e : E) → (n ≤ caller e → caller e < n + count → ⊥) → own_of caller n count (xs ++ e ∷ []) ≡ own_of caller n count xs
  own_of-other n zero xs e out = refl
  own_of-other n (suc count) xs e out =
      cons (entries_by-other n xs e (λ h. out (omega arith) (omega arith))) (own_of-other (suc n) count xs e (λ low high. out (omega arith) (omega arith)))

  -- an entry of the first number stands behind its entries
  pub own_of-grown : (n count : ℕ) (xs : List E) (e : E) → 0 < count → caller e ≡ n → own_of caller n count (xs ++ e ∷ []) ≡ grown (own_of caller n count xs) (e ∷ [])
  own_of-grown n zero xs e some same = absurd (omega arith)
  own_of-grown n (suc count) xs e some same =
      cons (entries_by-same n xs e same) (own_of-other (suc n) count xs e (λ low high. omega arith))

  pub length-own_of : (n count : ℕ) (xs : List E) → length (own_of caller n count xs) ≡ count
  length-own_of n zero xs = refl
  length-own_of n (suc count) xs = ap suc (length-own_of (suc n) count xs)

  pub take-own_of : (j n count : ℕ) (xs : List E) → j ≤ count → take j (own_of caller n count xs) ≡ own_of caller n j xs
  take-own_of zero n count xs h = refl
  take-own_of (suc j) n zero xs h = absurd (omega arith)
  take-own_of (suc j) n (suc count) xs h = cons refl (take-own_of j (suc n) count xs (omega arith))

  pub drop-own_of : (j n count m : ℕ) (xs : List E) → j ≤ count → m ≡ n + j → drop j (own_of caller n count xs) ≡ own_of caller m (count - j) xs
  drop-own_of zero n count m xs h is = let same : n ≡ m = omega arith in let all : count ≡ count - 0 = omega arith in λ i. own_of caller (same i) (all i) xs
  drop-own_of (suc j) n zero m xs h is = absurd (omega arith)
  drop-own_of (suc j) n (suc count) m xs h is =
      let left : count - j ≡ suc count - suc j = omega arith in
      drop-own_of j (suc n) count m xs (omega arith) (omega arith) ∙ ap (λ k. own_of caller m k xs) left

  pub append-own_of : (n a b m : ℕ) (xs : List E) → m ≡ n + a → own_of caller n a xs ++ own_of caller m b xs ≡ own_of caller n (a + b) xs
  append-own_of n zero b m xs is = let same : m ≡ n = omega arith in let all : b ≡ 0 + b = omega arith in λ i. own_of caller (same i) (all i) xs
  append-own_of n (suc a) b m xs is =
      let more : suc (a + b) ≡ suc a + b = omega arith in
      cons refl (append-own_of (suc n) a b m xs (omega arith)) ∙ ap (λ k. own_of caller n k xs) more

  pub own_of-nil : (n count : ℕ) → replicate count [] ≡ own_of caller n count []
  own_of-nil n zero = refl
  own_of-nil n (suc count) = cons refl (own_of-nil (suc n) count)

module _ {E : Type 0} where
  -- nothing new leaves each number its entries
  pub grown-nil : (own : List (List E)) → grown own [] ≡ own
  grown-nil [] = refl
  grown-nil (es ∷ ess) = cons (append-nil es) refl

  pub length-grown : (own : List (List E)) (new : List E) → length (grown own new) ≡ length own
  length-grown [] new = refl
  length-grown (es ∷ ess) new = refl

  pub starts_whole : (xs : List E) → StartsWith xs xs
  starts_whole xs = ([], sym (append-nil xs))

  pub starts_more : (xs more seen : List E) → StartsWith xs seen → StartsWith (xs ++ more) seen
  starts_more xs more seen h = (h.0 ++ more, ap (λ l. l ++ more) h.1 ∙ append_assoc seen h.0 more)

  both_begin : (a b r s : List E) → a ++ r ≡ b ++ s → length a ≤ length b → StartsWith b a
  both_begin [] b r s e h = (b, refl)
  both_begin (x ∷ a) [] r s e h = absurd (omega arith)
  both_begin (x ∷ a) (y ∷ b) r s e h =
      let tails : a ++ r ≡ b ++ s = cc in
      let heads : x ≡ y = cc in
      let t = both_begin a b r s tails (omega arith) in
      (t.0, cons (sym heads) t.1)

  -- of two beginnings of one list the longer begins with both, and begins the list
  pub starts_longer : (xs a b : List E) → StartsWith xs a → StartsWith xs b → StartsWith (longer a b) a × StartsWith (longer a b) b × StartsWith xs (longer a b)
  starts_longer xs a b p q = go (ltb (length a) (length b)) refl
    where
      go : (t : Bool) → ltb (length a) (length b) ≡ t → StartsWith (longer a b) a × StartsWith (longer a b) b × StartsWith xs (longer a b)
      go true e = let less = ltb-true (length a) (length b) e in rw e (both_begin a b p.0 q.0 (sym p.1 ∙ q.1) (omega arith), starts_whole b, q)
      go false e = let le : length b ≤ length a = ltb-false _ _ e in rw e (starts_whole a, both_begin b a q.0 p.0 (sym q.1 ∙ p.1) le, p)

  pub length-longer : (a b : List E) (n m : ℕ) → n ≡ length a → m ≡ length b → (n < m → length (longer a b) ≡ m) × (m ≤ n → length (longer a b) ≡ n)
  length-longer a b n m is_n is_m = go (ltb (length a) (length b)) refl
    where
      go : (t : Bool) → ltb (length a) (length b) ≡ t → (n < m → length (longer a b) ≡ m) × (m ≤ n → length (longer a b) ≡ n)
      go true e = let less = ltb-true (length a) (length b) e in rw e ((λ h. sym is_m), (λ h. absurd (omega arith)))
      go false e = let le : length b ≤ length a = ltb-false _ _ e in rw e ((λ h. absurd (omega arith)), (λ h. sym is_n))
