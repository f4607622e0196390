-- Numbers at which a test falls.
use Rattle.std.specs.Prelude.{ℕ, ◌≡◌, ◌<◌, ◌≤◌, nat_lt, Bool, true}

-- among the numbers from `low` up to and without `high` a test holds exactly at those below t
pub record FallsAt (test : ℕ → Bool) (low high t : ℕ) : Type 0 where
  pub low_in : low ≤ t
  pub high_in : t ≤ high
  pub falls : (k : ℕ) → low ≤ k → k < high → test k ≡ nat_lt k t

-- among these numbers a test that holds at one holds at those before it
abbrev pub FallsIn : (ℕ → Bool) → ℕ → ℕ → Type 0
FallsIn test low high = (i k : ℕ) → low ≤ i → i ≤ k → k < high → test k ≡ true → test i ≡ true
