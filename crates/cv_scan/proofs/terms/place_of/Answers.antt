use Rattle.std.proofs.Common.{◌≡◌, ◌≤ℤ◌, ◌-ℤ◌, pos, ap, w64, FitsSigned, rules, to_z, of_z, arith}
use Rattle.std.specs.Int.{w128}
use Rattle.std.proofs.lemmas.Int.{ints, to_z-of_z}
use Rattle.cv_model.specs.Positions.{doubled}
use Rattle.cv_model.specs.Views.{PixelGrid}
use Rattle.cv_scan.proofs.TermLemmas.{place-is, at-least, less-is}
use Rattle.cv_scan.proofs.terms.place_of.Goals as goal

pub returns-then-over-slope-clause-place : goal.returns-then-over-slope-clause-place
returns-then-over-slope-clause-place c =
    let v = c.args.view.now in
    let unit : pos 1 ≤ℤ v.u = rw (ap (λ (g : PixelGrid). g.u) c.view.view_is) at c.view.invariant.unit in
    let whole_fits : FitsSigned w128 c.args.slope.now.whole = search rules in
    let way_fits : FitsSigned w128 c.way_east-way.result = search rules in
    let over_fits : FitsSigned w128 c.divided-columns.result.1 = search rules in
    let whole_is = to_z-of_z w128 c.args.slope.now.whole whole_fits in
    let way_is = to_z-of_z w128 c.way_east-way.result way_fits in
    let over_is = to_z-of_z w128 c.divided-columns.result.1 over_fits in
    let short = c.divided-columns.ensures.short in
    let from = c.from.ensures in
    let column_is : to_z w64 (of_z w64 (to_z w64 (of_z w64 c.from.result) -ℤ to_z w64 (of_z w64 c.divided-columns.result.0)))
    ≡ pos c.args.column -ℤ c.divided-columns.result.0 =
    omega (arith, ints) in
    let way = rw c.centre.ensures at c.way_east-way.ensures.value in
    let left = rw (way_is, whole_is) at c.divided-columns.ensures.left in
    let low = at-least c.divided-columns.result.1 (rw over_is at c.if-over-ge0.true) in
    let high =
    less-is c.divided-columns.result.1 c.args.slope.now.whole (rw (over_is, whole_is) at c.if-over-slope.true) in
    rw (over_is, column_is)
    (place-is v (doubled c.args.low) (doubled c.args.high) c.args.row c.args.column c.way_east-way.result
    c.divided-columns.result.0 c.divided-columns.result.1 c.args.slope.now unit c.requires.slope way left low high)
