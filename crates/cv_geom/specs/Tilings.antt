-- Polygons side by side: an edge that two polygons share cancels, so that no centre on it is in both
-- or in neither.
use Rattle.std.specs.Prelude.{ℕ, ◌≡◌, pos, Bool, false, not, ◌&&◌, if◌then◌else◌, ◌⊎◌, List, [], ◌∷◌, ◌++◌, count_by, IsPermutation}
use Rattle.std.specs.List.{flat_map}
use Rattle.cv_model.specs.Positions.{Position}
use Rattle.cv_model.specs.Polygons.{crosses, edges, is_inside}

-- an edge and its reverse cross alike
abbrev pub ReversesCrossAlike : Type 0
ReversesCrossAlike = (p a b : Position) → crosses p a b ≡ crosses p b a

-- two edges are the same up to direction
abbrev pub IsSameEdge : Position × Position → Position × Position → Type 0
IsSameEdge e f = (e ≡ f) ⊎ (e ≡ (f.1, f.0))

-- the edges of two lists are pairwise the same up to direction
abbrev pub ArePairwiseSame : List (Position × Position) → List (Position × Position) → Type 0
ArePairwiseSame [] [] = Unit {0}
ArePairwiseSame [] (f ∷ fs) = ⊥
ArePairwiseSame (e ∷ es) [] = ⊥
ArePairwiseSame (e ∷ es) (f ∷ fs) = IsSameEdge e f × ArePairwiseSame es fs

-- two lists have the same edges, in any order and direction
abbrev pub HaveSameEdges : List (Position × Position) → List (Position × Position) → Type 0
HaveSameEdges es fs = (gs : List (Position × Position)) × IsPermutation es gs × ArePairwiseSame gs fs

-- c is the union of a and b: its edges are those of a and of b without the ones that these share
pub record Unites (a b c : List (List Position)) : Type 0 where
  pub own_a : List (Position × Position)
  pub own_b : List (Position × Position)
  pub shared : List (Position × Position)
  pub a_is : HaveSameEdges (flat_map edges a) (own_a ++ shared)
  pub b_is : HaveSameEdges (flat_map edges b) (own_b ++ shared)
  pub c_is : HaveSameEdges (flat_map edges c) (own_a ++ own_b)

-- exactly one of two tests holds
abbrev pub exactly_one : Bool → Bool → Bool
exactly_one x y = if x then not y else y

-- a position is inside the union of two polygons exactly where it is inside one of them and not in both
abbrev pub SharedEdgesCancel : Type 0
SharedEdgesCancel =
    (a b c : List (List Position)) (p : Position) → Unites a b c
    → is_inside p c ≡ exactly_one (is_inside p a) (is_inside p b)

-- where two polygons don't overlap, a position inside their union is inside one of them, any other in none
abbrev pub TilesCoverOnce : Type 0
TilesCoverOnce =
    (a b c : List (List Position)) (p : Position) → Unites a b c → (is_inside p a && is_inside p b) ≡ false
    → count_by (is_inside p) (a ∷ b ∷ []) ≡ (if is_inside p c then 1 else 0)

-- the corner at so many units
abbrev pub corner : ℕ → ℕ → Position
corner x y = record { x = pos x; y = pos y }

-- two squares of two units side by side, and the rectangle that unites them
abbrev pub SquaresUnite : Type 0
SquaresUnite = Unites
    ((corner 0 2 ∷ corner 0 0 ∷ corner 2 0 ∷ corner 2 2 ∷ []) ∷ [])
    ((corner 4 0 ∷ corner 4 2 ∷ corner 2 2 ∷ corner 2 0 ∷ []) ∷ [])
    ((corner 0 2 ∷ corner 0 0 ∷ corner 2 0 ∷ corner 4 0 ∷ corner 4 2 ∷ corner 2 2 ∷ []) ∷ [])
