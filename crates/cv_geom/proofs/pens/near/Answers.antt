use Rattle.std.proofs.Common.{sym, w64}
use Rattle.std.proofs.lemmas.Int.{to_z-of_z}
use Rattle.cv_model.specs.Positions.{doubled}
use Rattle.cv_model.specs.Pens.{meets_square, corners, straddles}
use Rattle.cv_geom.proofs.BoolLemmas.{through, stopped}
use Rattle.cv_geom.proofs.pens.near.Goals as goal

pub returns-then-overlaps_both_ways : goal.returns-then-overlaps_both_ways
unfolding meets_square
returns-then-overlaps_both_ways c =
    let radius = to_z-of_z w64 c.args.r c.ranges.r in
    let box = rw radius at c.if-overlaps_both_ways.ensures in
    let line = rw radius at c.straddles.ensures in
    through _ (straddles (doubled c.args.a) (doubled c.args.b) (corners c.args.r c.args.p)) _ (sym box) line

pub returns-else-overlaps_both_ways : goal.returns-else-overlaps_both_ways
unfolding meets_square
returns-else-overlaps_both_ways c =
    let radius = to_z-of_z w64 c.args.r c.ranges.r in
    stopped _ _ _ (rw radius at c.overlaps_both_ways.ensures) c.if-overlaps_both_ways.false
