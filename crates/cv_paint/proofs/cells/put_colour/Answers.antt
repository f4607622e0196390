use Rattle.std.proofs.Common.{◌≡◌, ◌&&◌, nat_le, nat_lt, Bool, if◌then◌else◌, get_or, ap, ◌∙◌, arith}
use Rattle.std.proofs.lemmas.Bool.Decides.{nat_tests}
use Rattle.cv_model.specs.Colours.{transparent}
use Rattle.cv_paint.proofs.cells.put_colour.Goals as goal

-- where the loop ends, or where it doesn't begin, the test of its index is that of the end
pub returns-clause-colours : goal.returns-clause-colours
returns-clause-colours c = λ k.
    let same : (nat_le c.args.from k && nat_lt k c.loop-k.k) ≡ (nat_le c.args.from k && nat_lt k c.args.end) =
    grind (arith, nat_tests, c.loop-k.auto.k-end) in
    c.loop-k.invariant k
    ∙ ap (λ (b : Bool). if b then c.args.colour else get_or c.args.row.now k transparent) same
