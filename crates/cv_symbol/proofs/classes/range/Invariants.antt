-- The classes that are left give what they all give.
use Rattle.std.proofs.Common.{◌≡◌, drop}
use Rattle.cv_model.specs.Styles.{range_of}
use Rattle.cv_symbol.proofs.classes.range.Given as goal

abbrev pub invariant-loop-range : goal.invariant-loop-range
invariant-loop-range l = range_of (drop l.range-index l.classes) l.number ≡ range_of l.classes l.number
