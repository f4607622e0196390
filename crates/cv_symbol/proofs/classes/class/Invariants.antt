-- The classes that are left give what they all give.
use Rattle.std.proofs.Common.{◌≡◌, drop}
use Rattle.cv_model.specs.Styles.{class_of}
use Rattle.cv_symbol.proofs.classes.class.Given as goal

abbrev pub invariant-loop-class : goal.invariant-loop-class
invariant-loop-class l = class_of (drop l.class-index l.classes) l.text ≡ class_of l.classes l.text
