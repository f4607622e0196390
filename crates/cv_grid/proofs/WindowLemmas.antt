-- One to three digits before a space are a token.
use Rattle.std.proofs.Common.{◌≡◌, ℕ, zero, suc, ◌+◌, ◌-◌, ◌*◌, ◌<◌, ◌≤◌, true, List, ◌∷◌}
use Rattle.std.proofs.Common.{length, drop, get_or}
use Rattle.std.proofs.Common.{Option, Some, None, IfSome, refl, sym, ap, ◌∙◌, subst, arith}
use Rattle.std.proofs.lemmas.Bool.Decides.{nat_tests}
use Rattle.std.specs.Char.{is_ascii_digit}
use Rattle.cv_reading.specs.Space.{is_space}
use Rattle.cv_grid.specs.Scanning.{AreDigits, IsDigit, AreJoined, IsShort}
use Rattle.cv_grid.proofs.ScanLemmas.{byte_at}

-- a digit is at most 9
at_most : (b : ℕ) → is_ascii_digit b ≡ true → b - 48 ≤ 9
at_most b e = grind (arith, nat_tests)

-- one digit at the front
one : (b : ℕ) (bs : List ℕ) (n : ℕ) → IsDigit b n → AreDigits (b ∷ bs) n 1
one b bs n d = record {
  within = omega arith;
  digits = rw d.is refl;
  value = let is = d.value in omega arith;
  small = let is = d.value in omega (arith, at_most b d.is);
}

-- two digits at the front
two : (b c : ℕ) (bs : List ℕ) (m n : ℕ) → IsDigit b m → IsDigit c n → AreDigits (b ∷ c ∷ bs) (10 * m + n) 2
two b c bs m n d e = record {
  within = omega arith;
  digits = rw (d.is, e.is) refl;
  value = let is = d.value in let also = e.value in omega arith;
  small = let is = d.value in let also = e.value in omega (arith, at_most b d.is, at_most c e.is);
}

-- three digits at the front
three : (a b c : ℕ) (bs : List ℕ) (l m n : ℕ) → IsDigit a l → IsDigit b m → IsDigit c n
    → AreDigits (a ∷ b ∷ c ∷ bs) (10 * (10 * l + m) + n) 3
three a b c bs l m n f d e = record {
  within = omega arith;
  digits = rw (f.is, d.is, e.is) refl;
  value = let it = f.value in let is = d.value in let also = e.value in omega arith;
  small =
      let it = f.value in
      let is = d.value in
      let also = e.value in
      omega (arith, at_most a f.is, at_most b d.is, at_most c e.is);
}

-- a digit somewhere else
moved : (text : List ℕ) (i j n : ℕ) → i ≡ j → IsDigit (get_or text i 0) n → IsDigit (get_or text j 0) n
moved text i j n e d = subst (λ k. IsDigit (get_or text k 0) n) e d

-- the bytes at an offset
two_at : (text : List ℕ) (at : ℕ) → at + 1 < length text
    → drop at text ≡ get_or text at 0 ∷ get_or text (at + 1) 0 ∷ drop (at + 1 + 1) text
two_at text at h =
    byte_at text at (omega arith) ∙ ap (λ bs. get_or text at 0 ∷ bs) (byte_at text (at + 1) h)

three_at : (text : List ℕ) (at : ℕ) → at + 1 + 1 < length text
    → drop at text
    ≡ get_or text at 0 ∷ get_or text (at + 1) 0 ∷ get_or text (at + 1 + 1) 0 ∷ drop (at + 1 + 1 + 1) text
three_at text at h =
    byte_at text at (omega arith) ∙ ap (λ bs. get_or text at 0 ∷ bs) (two_at text (at + 1) h)

-- so many digits at an offset
digits_at : (text : List ℕ) (at size hundreds tens ones n : ℕ) → 0 < size → size ≤ 3 → at + size < length text
    → (hundreds ≤ 9 → IsDigit (get_or text (at + size - 3) 0) hundreds)
    → (tens ≤ 9 → IsDigit (get_or text (at + size - 2) 0) tens)
    → (ones ≤ 9 → IsDigit (get_or text (at + size - 1) 0) ones)
    → AreJoined size hundreds tens ones n → AreDigits (drop at text) n size
digits_at text at zero hundreds tens ones n some few h a b c are = absurd (omega arith)
digits_at text at (suc zero) hundreds tens ones n some few h a b c are =
    let is = are.0 refl in
    let d = moved text (at + 1 - 1) at ones (omega arith) (c is.0) in
    subst (λ m. AreDigits (drop at text) m 1) (sym is.1)
    (subst (λ bs. AreDigits bs ones 1) (sym (byte_at text at (omega arith)))
    (one (get_or text at 0) (drop (at + 1) text) ones d))
digits_at text at (suc (suc zero)) hundreds tens ones n some few h a b c are =
    let is = are.1 refl in
    let d = moved text (at + 2 - 2) at tens (omega arith) (b is.0) in
    let e = moved text (at + 2 - 1) (at + 1) ones (omega arith) (c is.1) in
    subst (λ m. AreDigits (drop at text) m 2) (sym is.2)
    (subst (λ bs. AreDigits bs (10 * tens + ones) 2) (sym (two_at text at (omega arith)))
    (two (get_or text at 0) (get_or text (at + 1) 0) (drop (at + 1 + 1) text) tens ones d e))
digits_at text at (suc (suc (suc zero))) hundreds tens ones n some few h a b c are =
    let is = are.2 refl in
    let f = moved text (at + 3 - 3) at hundreds (omega arith) (a is.0) in
    let d = moved text (at + 3 - 2) (at + 1) tens (omega arith) (b is.1) in
    let e = moved text (at + 3 - 1) (at + 1 + 1) ones (omega arith) (c is.2) in
    subst (λ m. AreDigits (drop at text) m 3) (sym is.3)
    (subst (λ bs. AreDigits bs (10 * (10 * hundreds + tens) + ones) 3) (sym (three_at text at (omega arith)))
    (three (get_or text at 0) (get_or text (at + 1) 0) (get_or text (at + 1 + 1) 0)
    (drop (at + 1 + 1 + 1) text) hundreds tens ones f d e))
digits_at text at (suc (suc (suc (suc k)))) hundreds tens ones n some few h a b c are = absurd (omega arith)

-- the number that was joined is that of the token
pub short_if : (text : List ℕ) (at end hundreds tens ones : ℕ) (o : Option ℕ) → at < end → end - at ≤ 3
    → end < length text → is_space (get_or text end 0) ≡ true
    → (hundreds ≤ 9 → IsDigit (get_or text (end - 3) 0) hundreds)
    → (tens ≤ 9 → IsDigit (get_or text (end - 2) 0) tens)
    → (ones ≤ 9 → IsDigit (get_or text (end - 1) 0) ones)
    → IfSome o (AreJoined (end - at) hundreds tens ones) → IfSome o (IsShort text at end)
short_if text at end hundreds tens ones None some few h space a b c are = are
short_if text at end hundreds tens ones (Some n) some few h space a b c are =
    let whole : at + (end - at) ≡ end = omega arith in
    record {
      some = some;
      within = h;
      space = space;
      digits = digits_at text at (end - at) hundreds tens ones n (omega arith) few (omega arith)
          (λ g. moved text (end - 3) (at + (end - at) - 3) hundreds (omega arith) (a g))
          (λ g. moved text (end - 2) (at + (end - at) - 2) tens (omega arith) (b g))
          (λ g. moved text (end - 1) (at + (end - at) - 1) ones (omega arith) (c g)) are;
    }
