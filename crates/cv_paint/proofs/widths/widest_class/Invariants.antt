-- The number is the width of the widest symbol so far.
use Rattle.std.proofs.Common.{◌≡◌, ◌≤◌, max, drop}
use Rattle.std.specs.List.{fold}
use Rattle.cv_model.specs.declared.style.Class.{Class}
use Rattle.cv_paint.specs.Widths.{width_of}
use Rattle.cv_paint.proofs.widths.widest_class.Given as goal

abbrev pub invariant-loop-class : goal.invariant-loop-class
invariant-loop-class l =
    (fold (λ n (c : Class). max n (width_of c.symbol)) l.widest (drop l.class-index l.classes)
    ≡ fold (λ n (c : Class). max n (width_of c.symbol)) 1 l.classes)
    × (1 ≤ l.widest) × (l.widest ≤ 256)
