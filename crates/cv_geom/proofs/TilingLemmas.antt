-- The crossings of edges in any order and direction, and their parity.
use Rattle.std.proofs.Common.{◌≡◌, ◌∙◌, sym, ap, refl, ℕ, ◌+◌, ◌%◌, ◌==◌, Bool, true, false, cond, ◌&&◌, if◌then◌else◌, inl, inr, List, [], ◌∷◌, ◌++◌, arith}
use Rattle.std.specs.List.{flat_map}
use Rattle.std.proofs.lemmas.List.Sums.{sum_by-cons, sum_by-append}
use Rattle.std.proofs.lemmas.List.Sorted.{sum_by-IsPermutation, IsPermutation-refl}
use Rattle.std.proofs.lemmas.Bool.Decides.{nat_tests}
use Rattle.cv_model.specs.Positions.{Position, doubled}
use Rattle.cv_model.specs.Polygons.{is_low, passes_right, crosses, is_crossed, crossings, edges, is_inside}
use Rattle.cv_geom.specs.Tilings.{IsSameEdge, ArePairwiseSame, HaveSameEdges, Unites, exactly_one, corner, SquaresUnite}

-- an edge and its reverse cross alike
crosses_alike : (p a b : Position) → crosses p a b ≡ crosses p b a
crosses_alike p a b = by (is_low p a) (is_low p b)
  where
    up : Bool
    up = passes_right p a b

    down : Bool
    down = passes_right p b a

    by :
        (x y : Bool)
        → (if x then (if y then false else up) else (if y then down else false)) ≡ (if y then (if x then false else down) else (if x then up else false))
    by true true = refl
    by true false = refl
    by false true = refl
    by false false = refl

-- the same edge crosses alike in both directions
is_crossed-same :
    (p : Position) (e f : Position × Position) → IsSameEdge e f → is_crossed p e ≡ is_crossed p f
is_crossed-same p e f (inl same) = ap (is_crossed p) same
is_crossed-same p e f (inr back) = ap (is_crossed p) back ∙ crosses_alike p (doubled f.1) (doubled f.0)

-- one crossing, or none
abbrev once : Position → Position × Position → ℕ
once p e = cond (is_crossed p e) 1 0

-- edges that are pairwise the same cross alike
crossings-pairwise :
    (p : Position) (es fs : List (Position × Position)) → ArePairwiseSame es fs
    → crossings p es ≡ crossings p fs
crossings-pairwise p [] [] same = refl
crossings-pairwise p [] (f ∷ fs) same = absurd same
crossings-pairwise p (e ∷ es) [] same = absurd same
crossings-pairwise p (e ∷ es) (f ∷ fs) same =
    let first = is_crossed-same p e f same.0 in
    let rest = crossings-pairwise p es fs same.1 in
    let sum : once p e + crossings p es ≡ once p f + crossings p fs = cc in
    sum_by-cons (once p) e es ∙ sum ∙ sym (sum_by-cons (once p) f fs)

-- the same edges in any order cross alike
crossings-same :
    (p : Position) (es fs : List (Position × Position)) → HaveSameEdges es fs
    → crossings p es ≡ crossings p fs
crossings-same p es fs (gs, moved, same) =
    sym (sum_by-IsPermutation (once p) es gs moved) ∙ crossings-pairwise p gs fs same

-- what the two own and share, and the parity of all
parity_of_sums : (a b s : ℕ) → ((a + b) % 2 == 1) ≡ exactly_one ((a + s) % 2 == 1) ((b + s) % 2 == 1)
parity_of_sums a b s = grind (arith, nat_tests)

-- a position is inside a union where it is inside exactly one of the two
pub is_inside-united :
    (a b c : List (List Position)) (p : Position) → Unites a b c
    → is_inside p c ≡ exactly_one (is_inside p a) (is_inside p b)
is_inside-united a b c p united =
    let own_a = crossings p united.own_a in
    let own_b = crossings p united.own_b in
    let shared = crossings p united.shared in
    let of_a = crossings-same p (flat_map edges a) (united.own_a ++ united.shared) united.a_is ∙ sum_by-append (once p) united.own_a united.shared in
    let of_b = crossings-same p (flat_map edges b) (united.own_b ++ united.shared) united.b_is ∙ sum_by-append (once p) united.own_b united.shared in
    let of_c = crossings-same p (flat_map edges c) (united.own_a ++ united.own_b) united.c_is ∙ sum_by-append (once p) united.own_a united.own_b in
    rw (of_a, of_b, of_c) (parity_of_sums own_a own_b shared)

-- two tests that don't hold together hold as often as one of them does
pub counted_once :
    (x y : Bool) → (x && y) ≡ false → 0 + cond x 1 0 + cond y 1 0 ≡ (if exactly_one x y then 1 else 0)
counted_once x y apart = grind arith

-- a list has its own edges
own_edges : (es : List (Position × Position)) → HaveSameEdges es es
own_edges es = (es, IsPermutation-refl es, alike es)
  where
    alike : (fs : List (Position × Position)) → ArePairwiseSame fs fs
    alike [] = tt
    alike (f ∷ fs) = (inl refl, alike fs)

-- two squares side by side have a rectangle as their union
pub squares_unite : SquaresUnite
squares_unite =
    let own_a = (corner 2 2, corner 0 2) ∷ (corner 0 2, corner 0 0) ∷ (corner 0 0, corner 2 0) ∷ [] in
    let own_b = (corner 2 0, corner 4 0) ∷ (corner 4 0, corner 4 2) ∷ (corner 4 2, corner 2 2) ∷ [] in
    record {
      own_a = own_a;
      own_b = own_b;
      shared = (corner 2 0, corner 2 2) ∷ [];
      a_is = own_edges (own_a ++ (corner 2 0, corner 2 2) ∷ []);
      b_is = (own_b ++ (corner 2 2, corner 2 0) ∷ [], IsPermutation-refl _, (inl refl, (inl refl, (inl refl, (inr refl, tt)))));
      c_is = own_edges (own_a ++ own_b);
    }
