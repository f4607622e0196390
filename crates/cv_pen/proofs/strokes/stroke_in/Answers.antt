use Rattle.std.proofs.Common.{option_to_list, w64, FitsSigned, rules}
use Rattle.std.proofs.lemmas.Int.{to_z-of_z}
use Rattle.cv_model.specs.Positions.{doubled}
use Rattle.cv_model.specs.Pens.{is_near}
use Rattle.cv_model.specs.Pictures.{half_side}
use Rattle.cv_model.specs.Views.{centre_of}
use Rattle.cv_pen.proofs.BetweenLemmas.{runs-widen}
use Rattle.cv_pen.proofs.SideLemmas.{meets-beside}
use Rattle.cv_pen.proofs.strokes.stroke_in.Goals as goal

pub returns-clause-run : goal.returns-clause-run
returns-clause-run g c =
    let v = c.args.view.now in
    let r = half_side v c.args.width in
    let by = c.columns_by-columns.result in
    let fits : FitsSigned w64 c.half_side-r.result = search rules in
    let r_is = to_z-of_z w64 c.half_side-r.result fits in
    let runs = rw (r_is, c.half_side-r.ensures.value) at c.stroke_between.ensures in
    let outside = rw (r_is, c.half_side-r.ensures.value) at c.columns_by-columns.ensures.outside in
    runs-widen (λ i. is_near r (centre_of v i c.args.row) (c.args.a, c.args.b)) by.from by.end c.args.from c.args.to
    (option_to_list c.stroke_between.result) c.columns_by-columns.ensures.from c.columns_by-columns.ensures.end
    (λ i west east out.
    meets-beside r (centre_of v i c.args.row) (doubled c.args.a) (doubled c.args.b) (outside i west east out))
    runs
