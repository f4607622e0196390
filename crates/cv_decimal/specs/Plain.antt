-- The decimals that the short way reads, as most are written.
use Rattle.std.specs.Prelude.{ℕ, ◌==◌, ◌&&◌, nat_lt, nat_le, Bool, true, false, if◌then◌else◌, List, [], ◌∷◌}
use Rattle.std.specs.Prelude.{length, drop}
use Rattle.std.specs.List.{prefix_len}
use Rattle.cv_number.specs.Mark.{is_digit}

-- nothing, or a point and digits or none
abbrev pub is_plain_rest : List ℕ → Bool
is_plain_rest [] = true
is_plain_rest (b ∷ bytes) = b == 46 && nat_le (length bytes) (prefix_len is_digit bytes)

-- digits, one at least, and then nothing, or a point and digits or none
abbrev pub is_plain_size : List ℕ → Bool
is_plain_size bytes =
    nat_lt 0 (prefix_len is_digit bytes) && is_plain_rest (drop (prefix_len is_digit bytes) bytes)

-- the same, perhaps behind a minus
abbrev pub is_plain : List ℕ → Bool
is_plain [] = false
is_plain (b ∷ bytes) = if b == 45 then is_plain_size bytes else is_plain_size (b ∷ bytes)
