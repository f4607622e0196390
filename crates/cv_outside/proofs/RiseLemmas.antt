-- What a count that rose says along later calls, for the crates above.
use Rattle.std.proofs.Common.{ℕ, ◌<◌, ◌≤◌, inl, inr, arith}
use Rattle.cv_outside.specs.Counts.{Rose}

-- a count that rose has risen after later calls too
pub rose_before : (old mid new : ℕ) → Rose old mid → mid ≤ new → Rose old new
rose_before old mid new (inl more) later = inl (omega arith)
rose_before old mid new (inr last) later = inr (omega arith)

-- a count that rose in a later call has risen since the earlier ones
pub rose_after : (old mid new : ℕ) → old ≤ mid → Rose mid new → Rose old new
rose_after old mid new earlier (inl more) = inl (omega arith)
rose_after old mid new earlier (inr last) = inr last

-- a count that stands still below its last value did not rise
pub no_rise_at : (n : ℕ) → n < 18446744073709551615 → Rose n n → ⊥
no_rise_at n below (inl more) = omega arith
no_rise_at n below (inr last) = omega arith

-- a count that is always 0, as of a device that never fails, did not rise
pub no_rise : Rose 0 0 → ⊥
no_rise rose = no_rise_at 0 (omega arith) rose
