use Rattle.std.proofs.Common.{w64, FitsSigned, rules}
use Rattle.std.specs.Int.{w128}
use Rattle.std.proofs.lemmas.Int.{to_z-of_z}
use Rattle.cv_model.specs.Positions.{doubled}
use Rattle.cv_scan.proofs.TermLemmas.{slope-is, at-least, less-is}
use Rattle.cv_scan.proofs.terms.slope_of.Goals as goal

pub returns-then-part-whole : goal.returns-then-part-whole
returns-then-part-whole c =
    let side_fits : FitsSigned w64 c.side-side.result = search rules in
    let across_fits : FitsSigned w64 c.across-dx.result = search rules in
    let up_fits : FitsSigned w64 c.up-dy.result = search rules in
    let columns_fits : FitsSigned w64 c.in_ok-columns.columns = search rules in
    let shift_fits : FitsSigned w64 c.in_ok-shift.shift = search rules in
    let part_fits : FitsSigned w128 c.part_of-part.result = search rules in
    let whole_fits : FitsSigned w128 c.product-whole.result = search rules in
    let side_is = to_z-of_z w64 c.side-side.result side_fits in
    let across_is = to_z-of_z w64 c.across-dx.result across_fits in
    let up_is = to_z-of_z w64 c.up-dy.result up_fits in
    let columns_is = to_z-of_z w64 c.in_ok-columns.columns columns_fits in
    let shift_is = to_z-of_z w64 c.in_ok-shift.shift shift_fits in
    let part_is = to_z-of_z w128 c.part_of-part.result part_fits in
    let whole_is = to_z-of_z w128 c.product-whole.result whole_fits in
    let whole = rw (side_is, up_is, c.side-side.ensures.value, c.up-dy.ensures.value) at c.product-whole.ensures in
    let shift = rw (columns_is, side_is, c.side-side.ensures.value) at c.in_ok-shift.ensures in
    let part =
    rw (across_is, side_is, shift_is, up_is, c.across-dx.ensures.value, c.side-side.ensures.value, c.up-dy.ensures.value) at
    c.part_of-part.ensures in
    let low = at-least c.part_of-part.result (rw part_is at c.if-part-ge0.true) in
    let high = less-is c.part_of-part.result c.product-whole.result (rw (part_is, whole_is) at c.if-part-whole.true) in
    rw (columns_is, part_is, whole_is)
    (slope-is c.args.view.now (doubled c.args.low) (doubled c.args.high) c.in_ok-columns.columns c.in_ok-shift.shift
    c.part_of-part.result c.product-whole.result whole shift part low high c.in_ok-columns.ensures)
