-- Bits kept in words.
--
-- Source: this project's own.
use Rattle.std.specs.Prelude.{ℕ, ◌/◌, ◌%◌, ◌==◌, Bool, List, map, get_or}
use Rattle.std.specs.Int.{bit_at}
use Rattle.std.specs.List.{range_with_len}

-- the bit in a place of words of 64 bits is set; the lowest bit of a word is the first
abbrev pub is_bit : List ℕ → ℕ → Bool
is_bit words place = bit_at (get_or words (place / 64) 0) (place % 64) == 1

-- the first n bits of words
abbrev pub bits_in : ℕ → List ℕ → List Bool
bits_in n words = map (is_bit words) (range_with_len 0 n)
