-- Outlines: the steps of items that come one after the other.
use Rattle.std.proofs.Common.{◌≡◌, ◌∙◌, ap, refl, ℕ, ◌+◌, ◌*◌, ◌≤◌, ◌-◌, suc, sym, List, [], ◌∷◌, length, take, drop, arith}
use Rattle.std.proofs.Math.Seq.{take-length}
use Rattle.cv_model.specs.Pens.{segments}
use Rattle.cv_model.specs.Positions.{Position}
use Rattle.cv_model.specs.Polygons.{edges_from}

-- the steps of one item are paid
pub one-paid :
    (steps new total rows here rest all : ℕ) → all ≡ here + rest → steps + all * rows ≤ total → new ≤ steps + here * rows
    → new + rest * rows ≤ total
one-paid steps new total rows here rest all is paid cost =
    let split : all * rows ≡ here * rows + rest * rows = ap (λ n. n * rows) is ∙ spread here rest rows in
    omega arith
  where
    spread : (a b c : ℕ) → (a + b) * c ≡ a * c + b * c
    spread a b c = grind arith

-- there are as many edges as points behind the first
pub edges_from-length : (a : Position) (points : List Position) → length (edges_from a points) ≡ length points
edges_from-length a [] = refl
edges_from-length a (b ∷ rest) =
    let later = edges_from-length b rest in omega arith

-- and as many segments of a line
pub segments-length :
    (points : List Position) → 2 ≤ length points
    → length (take (length points - 1) (drop 1 points)) ≡ length (segments points)
segments-length [] many = absurd (omega arith)
segments-length (a ∷ []) many = absurd (omega arith)
segments-length (a ∷ b ∷ rest) many =
    let count : suc (length (b ∷ rest)) - 1 ≡ length (b ∷ rest) = omega arith in
    let whole = ap (λ n. length (take n (b ∷ rest))) count ∙ ap length (take-length (b ∷ rest)) in
    whole ∙ sym (edges_from-length a (b ∷ rest))
