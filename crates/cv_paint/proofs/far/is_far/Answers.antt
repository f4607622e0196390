use Rattle.std.proofs.Common.{w64}
use Rattle.std.proofs.lemmas.Int.{to_z-of_z}
use Rattle.cv_paint.proofs.FarLemmas.{all_far}
use Rattle.cv_paint.proofs.far.is_far.Goals as goal

pub returns-clause-far : goal.returns-clause-far
returns-clause-far c =
    let radius = to_z-of_z w64 c.args.r c.ranges.r in
    all_far c.args.view.now c.args.r c.args.bounds.now c.first_centre.result c.last_centre.result c.are_beyond.result
    c.first_centre.ensures.unit c.first_centre.ensures.centre c.last_centre.ensures (rw radius at c.are_beyond.ensures)
