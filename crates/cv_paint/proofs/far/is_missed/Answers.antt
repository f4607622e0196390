use Rattle.std.proofs.Common.{sym, w64, FitsSigned, rules}
use Rattle.std.proofs.lemmas.Int.{to_z-of_z}
use Rattle.cv_model.specs.Views.{centre_of}
use Rattle.cv_paint.proofs.FarLemmas.{missed}
use Rattle.cv_paint.proofs.far.is_missed.Goals as goal

pub returns-in-Some : goal.returns-in-Some
returns-in-Some c = λ held drawn most i j i_in j_in.
    let fits : FitsSigned w64 c.half_side.result = search rules in
    let radius = to_z-of_z w64 c.half_side.result fits in
    missed drawn c.args.view.now c.args.widest c.in-Some.bounds (centre_of c.args.view.now i j)
    c.args.row.now.geometry (sym c.in-Some.ensures) c.is_far.ensures.unit
    (rw (radius, c.half_side.ensures.value) at (c.is_far.ensures.far held i j i_in j_in)) most
