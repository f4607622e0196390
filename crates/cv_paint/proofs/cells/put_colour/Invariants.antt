-- The pixels so far have the colour, and the others what they had.
use Rattle.std.proofs.Common.{◌≡◌, ℕ, ◌&&◌, nat_le, nat_lt, if◌then◌else◌, get_or}
use Rattle.cv_model.specs.Colours.{transparent}
use Rattle.cv_paint.proofs.cells.put_colour.Given as goal

abbrev pub invariant-loop-k : goal.invariant-loop-k
invariant-loop-k l = (q : ℕ) → get_or l.row q transparent
    ≡ (if nat_le l.fn.from q && nat_lt q l.k then l.colour else get_or l.fn.row q transparent)
