-- The edges of a ring, and the parity of crossings.
use Rattle.std.proofs.Common.{◌≡◌, ◌-◌, suc, List, [], ◌∷◌, length, slice_get, Some, refl, ap, arith}
use Rattle.cv_model.specs.Positions.{Position}
use Rattle.cv_model.specs.Polygons.{last_of, edges_from, edges}

-- the last of a list is found at the last place
slice_get-last :
    (a : Position) (rest : List Position) → slice_get (a ∷ rest) (length rest) ≡ Some (last_of a rest)
slice_get-last a [] = refl
slice_get-last a (b ∷ rest) = slice_get-last b rest

-- the edges of a ring run from its last point through all
pub edges-last :
    (xs : List Position) (b : Position) → slice_get xs (length xs - 1) ≡ Some b → edges xs ≡ edges_from b xs
edges-last [] b last = refl
edges-last (a ∷ rest) b last =
    let behind : suc (length rest) - 1 ≡ length rest = omega arith in
    let there = rw behind at last in
    let same : last_of a rest ≡ b = cc (slice_get-last a rest, there) in
    ap (λ e. edges_from e (a ∷ rest)) same
