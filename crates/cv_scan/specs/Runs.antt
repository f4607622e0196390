-- Runs of a row made of reaches: a column that lies left of an odd number of crossings is inside.
use Rattle.std.specs.Prelude.{ℕ, ◌≤◌, ◌%◌, nat_lt, min, Bool, ◌==◌, if◌then◌else◌, List, [], ◌∷◌, ◌++◌, length, count_by}
use Rattle.std.specs.List.{flat_map}
use Rattle.cv_model.specs.declared.span.Span.{Span}
use Rattle.cv_model.specs.Positions.{Position}
use Rattle.cv_model.specs.Views.{PixelGrid}
use Rattle.cv_scan.specs.Reaches.{edge_reach}

-- how many reaches go beyond column i
abbrev pub beyond : ℕ → List ℕ → ℕ
beyond i reaches = count_by (λ k. nat_lt i k) reaches

-- column i lies left of an odd number of crossings
abbrev pub is_within : ℕ → List ℕ → Bool
is_within i reaches = beyond i reaches % 2 == 1

-- a number, if it is greater than another
abbrev pub above : ℕ → ℕ → List ℕ
above low k = if nat_lt low k then k ∷ [] else []

-- the reaches of edges that go beyond column `from`, none further than `to`
abbrev pub reaches_in : PixelGrid → ℕ → ℕ → ℕ → List (Position × Position) → List ℕ
reaches_in v j from to edges = flat_map (λ e. above from (min (edge_reach v j e) to)) edges

-- numbers that don't descend, from `low` on and to `high` at most
abbrev pub Rises : ℕ → ℕ → List ℕ → Type 0
Rises low high [] = Unit {0}
Rises low high (k ∷ ks) = (low ≤ k) × (k ≤ high) × Rises k high ks

-- an even number of them
abbrev pub IsPaired : List ℕ → Type 0
IsPaired [] = Unit {0}
IsPaired (a ∷ []) = ⊥
IsPaired (a ∷ b ∷ rest) = IsPaired rest

-- the span between two columns, unless it is empty
abbrev pub unless_empty : ℕ → ℕ → List Span
unless_empty a b = if nat_lt a b then (record { from = a; end = b }) ∷ [] else []

-- the span from a to b and those of the pairs behind it, joined where they touch
abbrev pub joined : ℕ → ℕ → List ℕ → List Span
joined a b [] = unless_empty a b
joined a b (c ∷ []) = unless_empty a b
joined a b (c ∷ d ∷ rest) = if b == c then joined a d rest else unless_empty a b ++ joined c d rest

-- reaches, with one of `low` more if their number is odd
abbrev pub padded : ℕ → List ℕ → List ℕ
padded low reaches = if length reaches % 2 == 1 then reaches ++ low ∷ [] else reaches

-- a number from `low` to `high`
abbrev pub LiesWithin : ℕ → ℕ → ℕ → Type 0
LiesWithin low high k = (low ≤ k) × (k ≤ high)
