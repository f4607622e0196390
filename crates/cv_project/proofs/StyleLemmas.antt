-- Stops that ascend.
use Rattle.std.proofs.Common.{◌≡◌, ℕ, Bool, true, false, ◌&&◌, List, [], ◌∷◌, drop, ℤ, refl, sym, ap, ◌∙◌}
use Rattle.std.proofs.Common.{arith}
use Rattle.std.specs.Prelude.{◌<ℤ◌, ◌≤ℤ◌, int_lt}
use Rattle.std.proofs.lemmas.Int.{ints}
use Rattle.cv_model.specs.Ramps.{Ascends}
use Rattle.cv_model.specs.declared.ramp.Stop.{Stop}
use Rattle.cv_project.specs.Styles.{ascends, ascends_from}

-- both of two tests that hold together
both : (a b : Bool) → (a && b) ≡ true → (a ≡ true) × (b ≡ true)
both true true h = (refl, refl)
both true false h = cc
both false b h = cc

below : (a b : ℤ) → int_lt a b ≡ true → a <ℤ b
below a b h = grind (arith, ints)

-- the test of stops behind one
Ascends-from : (stop : Stop) (rest : List Stop) → ascends_from stop.value rest ≡ true → Ascends (stop ∷ rest)
Ascends-from stop [] h = tt
Ascends-from stop (next ∷ rest) h =
    let parts = both (int_lt stop.value next.value) (ascends_from next.value rest) h in
    (below stop.value next.value parts.0, Ascends-from next rest parts.1)

-- stops that pass the test ascend
pub ascends-Ascends : (stops : List Stop) → ascends stops ≡ true → Ascends stops
ascends-Ascends [] h = tt
ascends-Ascends (stop ∷ rest) h = Ascends-from stop rest h

-- a stop that isn't above the one before it decides
pub ascends_from-stops : (v : ℤ) (stop : Stop) (rest : List Stop) → int_lt v stop.value ≡ false
    → ascends_from v (stop ∷ rest) ≡ false
ascends_from-stops v stop rest low = rw low refl

-- and behind one that is the others decide
pub ascends_from-more : (v : ℤ) (stop : Stop) (rest : List Stop) → int_lt v stop.value ≡ true
    → ascends_from v (stop ∷ rest) ≡ ascends_from stop.value rest
ascends_from-more v stop rest high = rw high refl
