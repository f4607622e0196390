-- Counts that never fall, and what it means that one rose.
use Rattle.std.specs.Prelude.{ℕ, ◌<◌, ◌≤◌, ◌⊎◌}

-- the count is greater at the call's end than at its start, or it stands at the counter's last value,
-- 2^64 - 1
abbrev pub Rose : ℕ → ℕ → Type 0
Rose old new = (old < new) ⊎ (18446744073709551615 ≤ new)
