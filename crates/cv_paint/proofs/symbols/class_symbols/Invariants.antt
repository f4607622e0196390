-- What is kept is what the classes so far give.
use Rattle.std.proofs.Common.{◌≡◌, ℕ, List, Some, take}
use Rattle.std.specs.Prelude.{option_map}
use Rattle.cv_model.specs.Styles.{class_of}
use Rattle.cv_paint.specs.Symbols.{given_by}
use Rattle.cv_paint.proofs.symbols.class_symbols.Given as goal

abbrev pub invariant-loop-class : goal.invariant-loop-class
invariant-loop-class l = (q : List ℕ) → given_by l.given q ≡ option_map Some (class_of (take l.class-index l.classes) q)
