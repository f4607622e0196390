use Rattle.std.proofs.Common.{sym}
use Rattle.cv_model.specs.Views.{centre_of}
use Rattle.cv_paint.proofs.FarLemmas.{outside}
use Rattle.cv_paint.proofs.far.is_outside.Goals as goal

pub returns-in-Some : goal.returns-in-Some
returns-in-Some c = λ held i j i_in j_in.
    outside c.in-Some.bounds (centre_of c.args.view.now i j) c.args.row.now.geometry (sym c.in-Some.ensures)
    (c.is_far.ensures.far held i j i_in j_in)
