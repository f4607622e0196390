-- Stops that ascend, and stops that are read.
use Rattle.std.proofs.Common.{◌≡◌, ℕ, Bool, true, false, ◌&&◌, List, [], ◌∷◌, ◌++◌, ℤ, refl, sym, ap, ◌∙◌}
use Rattle.std.proofs.Common.{Option, Some, None, append_assoc, append-nil, arith}
use Rattle.std.specs.Prelude.{◌<ℤ◌, int_lt, nat_le, nat_eq, ◌≤◌, length, All}
use Rattle.std.proofs.lemmas.Bool.Decides.{nat_tests}
use Rattle.cv_model.specs.declared.ramp.RampKind.{RampKind}
use Rattle.cv_model.specs.Positions.{IsCoordinate}
use Rattle.std.proofs.lemmas.Int.{ints}
use Rattle.cv_model.specs.Ramps.{Ascends, IsRamp}
use Rattle.cv_model.specs.declared.ramp.Stop.{Stop}
use Rattle.cv_script.specs.Styles.{ascends, ascends_from, are_stops, stop, stops, with_others}
use Rattle.cv_script.specs.Answers.{◌>>=◌}

-- both of two tests that hold together
pub both : (a b : Bool) → (a && b) ≡ true → (a ≡ true) × (b ≡ true)
both true true h = (refl, refl)
both true false h = cc
both false b h = cc

below : (a b : ℤ) → int_lt a b ≡ true → a <ℤ b
below a b h = grind (arith, ints)

-- the test of stops behind one
Ascends-from : (s : Stop) (rest : List Stop) → ascends_from s.value rest ≡ true → Ascends (s ∷ rest)
Ascends-from s [] h = tt
Ascends-from s (next ∷ rest) h =
    let parts = both (int_lt s.value next.value) (ascends_from next.value rest) h in
    (below s.value next.value parts.0, Ascends-from next rest parts.1)

-- stops that pass the test ascend
pub ascends-Ascends : (ss : List Stop) → ascends ss ≡ true → Ascends ss
ascends-Ascends [] h = tt
ascends-Ascends (s ∷ rest) h = Ascends-from s rest h

-- a stop that isn't above the one before it decides
pub ascends_from-stops : (v : ℤ) (s : Stop) (rest : List Stop) → int_lt v s.value ≡ false
    → ascends_from v (s ∷ rest) ≡ false
ascends_from-stops v s rest low = rw low refl

-- one more stop, before what the further words give
pub with_one : (front : List Stop) (s : Stop) (o : Option (List Stop))
    → with_others (front ++ s ∷ []) o ≡ with_others front (o >>= λ others. Some (s ∷ others))
with_one front s None = refl
with_one front s (Some others) = ap Some (append_assoc front (s ∷ []) others)

-- one more stop is read
pub stops_more : (front : List Stop) (a b : List ℕ) (rest : List (List ℕ)) (s : Stop) → stop a b ≡ Some s
    → with_others (front ++ s ∷ []) (stops rest) ≡ with_others front (stops (a ∷ b ∷ rest))
unfolding stops
stops_more front a b rest s h = rw h (with_one front s (stops rest))

-- a stop that is none decides
pub stops_bad : (a b : List ℕ) (rest : List (List ℕ)) → stop a b ≡ None → stops (a ∷ b ∷ rest) ≡ None
unfolding stops
stops_bad a b rest h = rw h refl

-- and no words are no further stops
pub stops_end : (front : List Stop) → with_others front (stops []) ≡ Some front
unfolding stops
stops_end front = ap Some (append-nil front)

at_least : (n : ℕ) → nat_le 1 n ≡ true → 1 ≤ n
at_least n h = grind (arith, nat_tests)

at_most : (n : ℕ) → nat_le n 256 ≡ true → n ≤ 256
at_most n h = grind (arith, nat_tests)

-- what passes the test of stops is a ramp's
pub are_stops-IsRamp : (kind : RampKind) (ss : List Stop) → are_stops ss ≡ true
    → All (λ s. IsCoordinate s.value) ss → IsRamp (record { kind = kind; stops = ss })
are_stops-IsRamp kind ss h kept =
    let a = both (nat_le 1 (length ss) && nat_le (length ss) 256) (ascends ss) h in
    let b = both (nat_le 1 (length ss)) (nat_le (length ss) 256) a.0 in record {
      least = at_least (length ss) b.0;
      most = at_most (length ss) b.1;
      in_range = kept;
      ascends = ascends-Ascends ss a.1;
    }

empty_of : (rest : List (List ℕ)) → nat_eq (length rest) 0 ≡ true → rest ≡ []
empty_of [] h = refl
empty_of (a ∷ rest) h = absurd (grind (arith, nat_tests))

-- where no word is left the stops so far are all
pub stops_all : (front : List Stop) (rest words : List (List ℕ)) → nat_eq (length rest) 0 ≡ true
    → with_others front (stops rest) ≡ stops words → stops words ≡ Some front
stops_all front rest words none same =
    sym same ∙ ap (λ x. with_others front (stops x)) (empty_of rest none) ∙ stops_end front
