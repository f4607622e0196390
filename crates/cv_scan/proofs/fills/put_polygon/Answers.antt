use Rattle.std.proofs.Common.{sym}
use Rattle.cv_model.specs.Polygons.{is_inside}
use Rattle.cv_model.specs.Views.{centre_of}
use Rattle.cv_scan.specs.Blocks.{is_in_block}
use Rattle.cv_scan.proofs.HeldLemmas.{adds-alike}
use Rattle.cv_scan.proofs.fills.put_polygon.Goals as goal

pub returns-in_ok-put_block-in-Some-clause-added : goal.returns-in_ok-put_block-in-Some-clause-added
returns-in_ok-put_block-in-Some-clause-added g c =
    let v = c.args.view.now in
    let corners = c.in-Some.corners in
    adds-alike (λ i j. is_in_block (centre_of v i j) corners.0 corners.1)
    (λ i j. is_inside (centre_of v i j) c.args.polygon.now) c.args.area c.args.into.now c.put_block.new.into
    (λ i j here. sym ((rw c.in-Some.is at c.block_of.ensures) (centre_of v i j))) c.in_ok-put_block-in-Some.ensures
