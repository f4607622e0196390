-- How far the crossing of an edge with a row's height reaches: so many centres of the row lie strictly left
-- of it.
--
-- Source: this project's own form of the parity rule for polygons.
use Rattle.std.specs.Prelude.{ℕ, zero, suc, ◌+◌, ◌≡◌, ◌<◌, nat_lt, Bool, if◌then◌else◌, pos, ◌≤ℤ◌}
use Rattle.cv_model.specs.Positions.{Position}
use Rattle.cv_model.specs.Views.{PixelGrid, centre_of}
use Rattle.cv_model.specs.Polygons.{is_crossed}

-- how many of the numbers below n pass a test
abbrev pub passes : (ℕ → Bool) → ℕ → ℕ
passes test zero = 0
passes test (suc n) = (if test n then 1 else 0) + passes test n

-- how many centres of row j lie strictly left of an edge that passes the row's height, else none
abbrev pub edge_reach : PixelGrid → ℕ → Position × Position → ℕ
edge_reach v j edge = passes (λ i. is_crossed (centre_of v i j) edge) v.w

-- an edge crosses right of the centres of its reach and of no others
abbrev pub EdgesCrossTheFirst : Type 0
EdgesCrossTheFirst =
    (v : PixelGrid) (i j : ℕ) (edge : Position × Position) → pos 1 ≤ℤ v.u → i < v.w
    → is_crossed (centre_of v i j) edge ≡ nat_lt i (edge_reach v j edge)
