-- What a test at one number says of the number where the tests fall.
use Rattle.std.proofs.Common.{◌≡◌, ◌∙◌, sym, ap, refl, ℕ, zero, suc, ◌+◌, ◌-◌, ◌≤◌, ◌<◌, nat_lt, ◌⊎◌, inl, inr, Bool, true, false, arith}
use Rattle.std.proofs.lemmas.Bool.Decides.{nat_tests}
use Rattle.cv_geom.specs.Falls.{FallsAt, FallsIn}

-- they fall behind a number at which the test holds
pub falls-behind :
    (p : ℕ → Bool) (low high t k : ℕ) → FallsAt p low high t → low ≤ k → k < high → p k ≡ true → k + 1 ≤ t
falls-behind p low high t k falls from below held =
    let told : nat_lt k t ≡ true = sym (falls.falls k from below) ∙ held in
    grind (arith, nat_tests)

-- they fall at or before a number at which it fails
pub falls-before :
    (p : ℕ → Bool) (low high t k : ℕ) → FallsAt p low high t → low ≤ k → k < high → p k ≡ false → t ≤ k
falls-before p low high t k falls from below failed =
    let told : nat_lt k t ≡ false = sym (falls.falls k from below) ∙ failed in
    grind (arith, nat_tests)

-- a test that falls among n numbers does so at one of them or behind all
falls-more :
    (p : ℕ → Bool) (low n : ℕ) (b : Bool) → p (low + n) ≡ b → FallsIn p low (low + suc n)
    → ((t : ℕ) × FallsAt p low (low + n) t) → (t : ℕ) × FallsAt p low (low + suc n) t
falls-more p low n true here falls (t, before) = (
  low + suc n,
  record {
    low_in = omega arith;
    high_in = omega arith;
    falls = λ k from below.
        let held = falls k (low + n) from (omega arith) (omega arith) here in
        let less : nat_lt k (low + suc n) ≡ true = grind (arith, nat_tests) in
        held ∙ sym less;
  },
)
falls-more p low n false here falls (t, before) = (
  t,
  record {
    low_in = before.low_in;
    high_in = omega (arith, before.high_in);
    falls = λ k from below. pick k from (grind arith);
  },
)
  where
    pick : (k : ℕ) → low ≤ k → (k < low + n) ⊎ (k ≡ low + n) → p k ≡ nat_lt k t
    pick k from (inl less) = before.falls k from less
    pick k from (inr same) =
        let most = before.high_in in
        let beyond : nat_lt k t ≡ false = grind (arith, nat_tests) in
        ap p same ∙ here ∙ sym beyond

falls-among : (p : ℕ → Bool) (low n : ℕ) → FallsIn p low (low + n) → (t : ℕ) × FallsAt p low (low + n) t
falls-among p low zero falls =
    (low, record { low_in = omega arith; high_in = omega arith; falls = λ k from below. absurd (omega arith) })
falls-among p low (suc n) falls =
    falls-more p low n (p (low + n)) refl falls
    (falls-among p low n (λ i k from order less held. falls i k from order (omega arith) held))

-- a test that falls has a number where it does
pub falls-somewhere :
    (p : ℕ → Bool) (low high : ℕ) → low ≤ high → FallsIn p low high → (t : ℕ) × FallsAt p low high t
falls-somewhere p low high order falls =
    let room : low + (high - low) ≡ high = omega arith in
    rw room at (falls-among p low (high - low) (rw room falls))

-- so a number that is found wherever it falls is one where it falls
pub falls-found :
    (p : ℕ → Bool) (low high n : ℕ) → low ≤ high → FallsIn p low high → ((t : ℕ) → FallsAt p low high t → n ≡ t)
    → FallsAt p low high n
falls-found p low high n order falls found =
    let there = falls-somewhere p low high order falls in
    rw (found there.0 there.1) there.1
