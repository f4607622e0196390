-- A text that a sink takes piece by piece.
use Rattle.std.proofs.Common.{◌≡◌, ℕ, ◌+◌, ◌-◌, List, ◌++◌, length, take, drop, append_assoc}
use Rattle.std.proofs.Math.Seq.{take-add}
use Rattle.std.proofs.lemmas.List.{take_rest}

-- the text up to a later place: the text up to a place, and then the first bytes of the rest
pub taken_on : (old text : List ℕ) (at n : ℕ) → old ++ take (at + n) text
    ≡ (old ++ take at text) ++ take n (take (length text - at) (drop at text))
taken_on old text at n = rw (take_rest, append_assoc, take-add)
