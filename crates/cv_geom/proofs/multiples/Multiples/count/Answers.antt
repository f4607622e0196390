use Rattle.std.proofs.Common.{◌≡◌, pos, w64, unsigned_abs, arith}
use Rattle.std.proofs.lemmas.Int.{ints, to_z-of_z}
use Rattle.cv_geom.proofs.PlaceLemmas.{count-falls}
use Rattle.cv_geom.proofs.multiples.Multiples.count.Goals as goal

pub returns-then-quotient-from : goal.returns-then-quotient-from
returns-then-quotient-from c =
    let step = c.args.self.now in
    let q = c.quotient-quotient.result in
    let m = unsigned_abs c.args.n in
    let is : pos m ≡ c.args.n = omega (arith, ints) in
    count-falls step m q c.args.most c.args.n is c.quotient-quotient.ensures.some
    (rw (to_z-of_z w64 c.args.n c.ranges.n) at c.quotient-quotient.ensures.value) (omega (arith, c.if-quotient-from.true))
