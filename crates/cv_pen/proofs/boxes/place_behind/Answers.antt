use Rattle.std.proofs.Common.{arith, w64}
use Rattle.std.proofs.lemmas.Int.{ints, to_z-of_z}
use Rattle.cv_pen.proofs.boxes.place_behind.Goals as goal

pub returns-clause-value : goal.returns-clause-value
returns-clause-value c =
    let a_is = to_z-of_z w64 c.args.a c.ranges.a in
    let b_is = to_z-of_z w64 c.args.b c.ranges.b in
    let value = rw (a_is, b_is) at c.most.ensures.value in
    let low = c.most.ensures.low in
    let high = c.most.ensures.high in
    let r_in = c.requires.r_in in
    omega (arith, ints)
