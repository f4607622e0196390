-- A machine that keeps the three laws answers exactly what the grammar spells.
use Rattle.std.proofs.Common.{◌≡◌, ◌↔◌, ℕ, zero, suc, ◌<◌, ◌≤◌, List, [], ◌∷◌, ◌++◌, length, take, Option}
use Rattle.std.proofs.Common.{Some, None, Result, Ok, Err, IfOk, IfErr, ◌≢◌, IsSome, IsSomeAnd}
use Rattle.std.proofs.Common.{option_and_then, refl, sym, ap, subst, arith, rules}
use Rattle.std.specs.Result.{result_ok}
use Rattle.cv_reading.specs.Machines.{Machine, ended, one_further, from_there, run, after}
use Rattle.cv_reading.specs.Readings.{Begins, IsFirstWrong, IsAnswer, IsReading, Reads}

-- ---- one token

-- the end of the text; o is `m.ends s`
at_end : {A V : Type 0} (Rest : List A → V → Type 0) (o : Option V) → Begins Rest []
    → ((v : V) → Rest [] v ↔ (o ≡ Some v)) → IsAnswer Rest [] (ended o)
at_end Rest None live law = record {
  refused = λ v h. let e : None ≡ Some v = (law v).0 h in cc;
  within = omega arith;
  begins = live;
  longest = λ n h k b. omega arith;
}
at_end Rest (Some v) live law = ((law v).1 refl, λ u h. let e : Some v ≡ Some u = (law u).0 h in cc)

-- no front that goes past a token that can't stand begins a text
past_stuck : {A V : Type 0} (Rest : List A → V → Type 0) (a : A) (w : List A)
    → ((u : List A) (v : V) → Rest (a ∷ u) v → ⊥) → (n : ℕ) → 0 < n → Begins Rest (take n (a ∷ w)) → ⊥
past_stuck Rest a w none zero h b = omega arith
past_stuck Rest a w none (suc n) h b = none (take n w ++ b.0) b.1 b.2

-- a token that can stand, before a text that is refused at a place
one_more : {A V : Type 0} (Rest Behind : List A → V → Type 0) (a : A) (w : List A) (at : ℕ)
    → ((u : List A) (v : V) → Rest (a ∷ u) v ↔ Behind u v) → IsFirstWrong Behind w at
    → IsFirstWrong Rest (a ∷ w) (suc at)
one_more Rest Behind a w at law wrong = record {
  refused = λ v h. wrong.refused v ((law w v).0 h);
  within = let h = wrong.within in omega arith;
  begins = (b.0, b.1, (law (take at w ++ b.0) b.1).1 b.2);
  longest = past;
}
  where
    b : Begins Behind (take at w)
    b = wrong.begins

    past : (n : ℕ) → suc at < n → n ≤ length (a ∷ w) → Begins Rest (take n (a ∷ w)) → ⊥
    past zero h k c = omega arith
    past (suc n) h k c = wrong.longest n (omega arith) (omega arith)
        (c.0, c.1, (law (take n w ++ c.0) c.1).0 c.2)

-- the same before any answer
further : {A V : Type 0} (Rest Behind : List A → V → Type 0) (a : A) (w : List A) (r : Result V ℕ)
    → ((u : List A) (v : V) → Rest (a ∷ u) v ↔ Behind u v) → IsAnswer Behind w r
    → IsAnswer Rest (a ∷ w) (one_further r)
further Rest Behind a w (Ok v) law fits = ((law w v).1 fits.0, λ u h. fits.1 u ((law w u).0 h))
further Rest Behind a w (Err at) law fits = one_more Rest Behind a w at law fits

-- a token; o is `m.step s a`
at_token : {S A V : Type 0} (Rest : S → List A → V → Type 0) (s : S) (a : A) (w : List A)
    (answer : S → Result V ℕ) (o : Option S)
    → Begins (Rest s) [] → ((u : List A) (v : V) → Rest s (a ∷ u) v ↔ IsSomeAnd o (λ t. Rest t u v))
    → ((t : S) → IsAnswer (Rest t) w (answer t))
    → IsAnswer (Rest s) (a ∷ w) (from_there answer o)
at_token Rest s a w answer None live law behind = record {
  refused = λ v h. (law w v).0 h;
  within = omega arith;
  begins = live;
  longest = λ n h k b. past_stuck (Rest s) a w (λ u v. (law u v).0) n h b;
}
at_token Rest s a w answer (Some t) live law behind = further (Rest s) (Rest t) a w (answer t) law (behind t)

-- ---- a text

-- what the machine answers is the text's only value, or its first wrong place
is_answer : {S A V : Type 0} (m : Machine S A V) (Rest : S → List A → V → Type 0) → Reads m Rest
    → (w : List A) (s : S) → IsAnswer (Rest s) w (run m w s)
is_answer m Rest reads [] s = at_end (Rest s) (m.ends s) (reads.live s) (reads.ends s)
is_answer m Rest reads (a ∷ w) s =
    at_token Rest s a w (run m w) (m.step s a) (reads.live s) (reads.step s a) (is_answer m Rest reads w)

-- a text has one first wrong place
pub same_place : {A V : Type 0} (Spells : List A → V → Type 0) (text : List A) (p q : ℕ)
    → IsFirstWrong Spells text p → IsFirstWrong Spells text q → p ≡ q
same_place Spells text p q at_p at_q =
    apart (λ h. at_p.longest q h at_q.within at_q.begins) (λ h. at_q.longest p h at_p.within at_p.begins)
  where
    apart : (p < q → ⊥) → (q < p → ⊥) → p ≡ q
    apart f g = omega arith

reading_of : {A V : Type 0} (Spells : List A → V → Type 0) (text : List A) (r : Result V ℕ)
    → IsAnswer Spells text r → IsReading Spells text r
reading_of Spells text (Ok v) fits = record {
  value = λ u. (λ e. let same : v ≡ u = cc in subst (Spells text) same fits.0, λ h. ap Ok (sym (fits.1 u h)));
  place = λ at. (λ e. absurd (cc), λ wrong. absurd (wrong.refused v fits.0));
}
reading_of Spells text (Err n) fits = record {
  value = λ u. (λ e. absurd (cc), λ h. absurd (fits.refused u h));
  place = λ at. (
    λ e. let same : n ≡ at = cc in
        subst (IsFirstWrong Spells text) same fits,
    λ wrong. ap Err (same_place Spells text n at fits wrong),
  );
}

-- the theorem: the machine reads the grammar, in both directions and with the exact place
pub is_reading : {S A V : Type 0} (m : Machine S A V) (Rest : S → List A → V → Type 0) → Reads m Rest
    → (w : List A) (s : S) → IsReading (Rest s) w (run m w s)
is_reading m Rest reads w s = reading_of (Rest s) w (run m w s) (is_answer m Rest reads w s)

-- a first wrong place of a grammar is one of another that spells the same
same_wrong : {A V : Type 0} (S T : List A → V → Type 0) (text : List A) (at : ℕ)
    → ((w : List A) (v : V) → S w v ↔ T w v) → IsFirstWrong S text at → IsFirstWrong T text at
same_wrong S T text at same wrong = record {
  refused = λ v h. wrong.refused v ((same text v).1 h);
  within = wrong.within;
  begins = let b = wrong.begins in (b.0, b.1, (same (take at text ++ b.0) b.1).0 b.2);
  longest = λ n h k b. wrong.longest n h k (b.0, b.1, (same (take n text ++ b.0) b.1).1 b.2);
}

-- what the answer says of one grammar it says of the other
pub same_reading : {A V : Type 0} (S T : List A → V → Type 0) (text : List A) (r : Result V ℕ)
    → ((w : List A) (v : V) → S w v ↔ T w v) → IsReading S text r → IsReading T text r
same_reading S T text r same reading = record {
  value = λ v. (λ e. (same text v).0 ((reading.value v).0 e), λ h. (reading.value v).1 ((same text v).1 h));
  place = λ at. (
    λ e. same_wrong S T text at same ((reading.place at).0 e),
    λ h. (reading.place at).1 (same_wrong T S text at (λ w v. ((same w v).1, (same w v).0)) h),
  );
}

-- the value alone, where there is one
pub value_spelt : {A V : Type 0} (Spells : List A → V → Type 0) (text : List A) (r : Result V ℕ)
    → IsReading Spells text r → (v : V) → (result_ok r ≡ Some v) ↔ Spells text v
value_spelt Spells text (Ok u) reading v = (
  λ e. let same : u ≡ v = cc in (reading.value v).0 (ap Ok same),
  λ h. let same = (reading.value v).1 h in
      cc,
)
value_spelt Spells text (Err at) reading v =
    (λ e. absurd (cc), λ h. let same = (reading.value v).1 h in absurd (cc))

-- ---- fronts

-- a step before the further tokens of a front; o is `m.step s a`, and P what completes the text before it
across : {S A V : Type 0} (m : Machine S A V) (Rest : S → List A → V → Type 0) (front w : List A) (t : S)
    (v : V) (P : Type 0) (o : Option S)
    → option_and_then (after m front) o ≡ Some t → P ↔ IsSomeAnd o (λ u. Rest u (front ++ w) v)
    → ((u : S) → after m front u ≡ Some t → Rest u (front ++ w) v ↔ Rest t w v) → P ↔ Rest t w v
across m Rest front w t v P None e law behind = absurd (cc)
across m Rest front w t v P (Some u) e law behind =
    (λ h. (behind u e).0 (law.0 h), λ h. law.1 ((behind u e).1 h))

-- behind a front that leads to t, a text is completed as behind t
pub residual : {S A V : Type 0} (m : Machine S A V) (Rest : S → List A → V → Type 0) → Reads m Rest
    → (front : List A) (s t : S) (w : List A) (v : V) → after m front s ≡ Some t
    → Rest s (front ++ w) v ↔ Rest t w v
residual m Rest reads [] s t w v e =
    let same : s ≡ t = cc in
    (λ h. subst (λ x. Rest x w v) same h, λ h. subst (λ x. Rest x w v) (sym same) h)
residual m Rest reads (a ∷ front) s t w v e =
    across m Rest front w t v (Rest s (a ∷ (front ++ w)) v) (m.step s a) e (reads.step s a (front ++ w) v)
    (λ u f. residual m Rest reads front u t w v f)

-- a front that leads to a state begins a text
pub begins_behind : {S A V : Type 0} (m : Machine S A V) (Rest : S → List A → V → Type 0) → Reads m Rest
    → (front : List A) (s t : S) → after m front s ≡ Some t → Begins (Rest s) front
begins_behind m Rest reads front s t e =
    let rest = reads.live t in
    (rest.0, rest.1, (residual m Rest reads front s t rest.0 rest.1 e).1 rest.2)

-- the first token of such a front can stand; o is `m.step s a`
begun_step : {S A V : Type 0} (m : Machine S A V) (Rest : S → List A → V → Type 0) (front w : List A) (v : V)
    (o : Option S)
    → IsSomeAnd o (λ u. Rest u (front ++ w) v) → ((u : S) → Begins (Rest u) front → IsSome (after m front u))
    → IsSome (option_and_then (after m front) o)
begun_step m Rest front w v None h behind = absurd h
begun_step m Rest front w v (Some u) h behind = behind u (w, v, h)

-- a front that begins a text leads to a state
pub leads_begun : {S A V : Type 0} (m : Machine S A V) (Rest : S → List A → V → Type 0) → Reads m Rest
    → (front : List A) (s : S) → Begins (Rest s) front → IsSome (after m front s)
leads_begun m Rest reads [] s b = search rules
leads_begun m Rest reads (a ∷ front) s b =
    begun_step m Rest front b.0 b.1 (m.step s a) ((reads.step s a (front ++ b.0) b.1).0 b.2)
    (leads_begun m Rest reads front)

-- ---- an answer that may also be want of memory

-- where it isn't that, an answer whose outcomes are those of x is x; `none` is the error for want of memory
pub exact_of : {V E : Type 0} (none : E) (r x : Result V E) → IfOk r (λ v. x ≡ Ok v)
    → IfErr r (λ e. (e ≢ none) → x ≡ Err e) → (r ≢ Err none) → r ≡ x
exact_of none (Ok v) x h k n = sym h
exact_of none (Err e) x h k n = sym (k (λ q. n (ap Err q)))
