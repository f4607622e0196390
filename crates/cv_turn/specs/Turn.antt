-- What all passes of a turn share.
use Rattle.std.specs.Prelude.{ℕ}
use Rattle.atomic_table.specs.Seated.{TableId}

-- Which turn it is, and how many numbers its passes have together
pub record Shared : Type 0 where
  pub table : TableId
  pub callers : ℕ
