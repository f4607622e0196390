-- A division by what varies, as a product with a reciprocal and a division by 2^48.
--
-- Source: T. Granlund and P. L. Montgomery, Division by Invariant Integers using Multiplication, 1994.
use Rattle.std.specs.Prelude.{ℕ, ◌≡◌, ◌<◌, ◌+◌, ◌*◌, ◌/◌, List, slice_index}
use Rattle.cv_model.specs.Colours.{covered}

-- what a number is multiplied by, and then divided by 2^48, in place of being divided by twice what a source
-- of one alpha covers over a backdrop of another; 1 where both are 0, since the number is 0 there
abbrev pub reciprocal : ℕ → ℕ → ℕ
reciprocal source backdrop = 281474976710656 / (2 * covered source backdrop) + 1

-- these are reciprocals for a source of this alpha, by the alpha of the backdrop; 0 where one isn't found yet
abbrev pub AreFound : ℕ → List ℕ → Type 0
AreFound source found =
    (backdrop : ℕ) → 0 < slice_index found backdrop → slice_index found backdrop ≡ reciprocal source backdrop
