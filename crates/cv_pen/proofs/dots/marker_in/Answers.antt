use Rattle.std.proofs.Common.{option_to_list, w64, FitsSigned, rules}
use Rattle.std.proofs.lemmas.Int.{to_z-of_z}
use Rattle.cv_model.specs.Markers.{is_marked}
use Rattle.cv_model.specs.Pictures.{half_side}
use Rattle.cv_model.specs.Views.{centre_of}
use Rattle.cv_pen.proofs.BetweenLemmas.{runs-widen}
use Rattle.cv_pen.proofs.RowLemmas.{marked-beside}
use Rattle.cv_pen.proofs.dots.marker_in.Goals as goal

pub returns-clause-run : goal.returns-clause-run
returns-clause-run g c =
    let v = c.args.view.now in
    let r = half_side v c.args.size in
    let by = c.columns_by-columns.result in
    let some = rw c.half_side-r.ensures.value at c.half_side-r.ensures.radius.0 in
    let fits : FitsSigned w64 c.half_side-r.result = search rules in
    let r_is = to_z-of_z w64 c.half_side-r.result fits in
    let runs = rw (r_is, c.half_side-r.ensures.value) at c.marker_between.ensures in
    let outside = rw (r_is, c.half_side-r.ensures.value) at c.columns_by-columns.ensures.outside in
    runs-widen (λ i. is_marked c.args.shape r (centre_of v i c.args.row) c.args.at) by.from by.end c.args.from c.args.to
    (option_to_list c.marker_between.result) c.columns_by-columns.ensures.from c.columns_by-columns.ensures.end
    (λ i west east out. marked-beside c.args.shape r (centre_of v i c.args.row) c.args.at some (outside i west east out))
    runs
