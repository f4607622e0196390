-- A store has few layers.
use Rattle.std.proofs.Common.{◌≡◌, ◌≤◌, false, Bool, true, ◌||◌, List, length, map, arith, refl}
use Rattle.std.proofs.lemmas.Bool.Decides.{nat_tests}
use Rattle.std.proofs.lemmas.List.{length-map}
use Rattle.std.specs.Prelude.{nat_lt}
use Rattle.cv_model.specs.Edits.{is_over}
use Rattle.cv_model.specs.Layers.{Layer}
use Rattle.cv_store.specs.Stores.{layer_of}
use Rattle.cv_store.proofs.store.Store.len.Goals as goal

first_false : (a b : Bool) → (a || b) ≡ false → a ≡ false
first_false false b e = refl
first_false true b e = e

few : (layers : List Layer) → is_over layers ≡ false → length layers ≤ 32
unfolding is_over
few layers e = let h = first_false (nat_lt 32 (length layers)) _ e in grind (arith, nat_tests)

pub overflow_cast-result : goal.overflow_cast-result
overflow_cast-result c =
    omega (arith, few (map layer_of c.self.inside.layers) c.self.invariant.within, length-map c.self.inside.layers layer_of, c.len.ensures)

pub returns-clause-few : goal.returns-clause-few
returns-clause-few c =
    omega (arith, few (map layer_of c.self.inside.layers) c.self.invariant.within, length-map c.self.inside.layers layer_of, c.len.ensures)
