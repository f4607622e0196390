use Rattle.std.proofs.Common.{ℤ, pos, get_or, arith}
use Rattle.cv_project.proofs.CanvasLemmas.{to_z-coordinate}
use Rattle.cv_project.proofs.canvas.rectangle.Goals as goal

pub returns : goal.returns
returns c =
    let xs = c.args.numbers.now in
    let a = to_z-coordinate (get_or xs 0 (pos 0)) (c.requires.in_range 0 (pos 0) (omega
    (arith, c.requires.four))) in
    let b = to_z-coordinate (get_or xs 1 (pos 0)) (c.requires.in_range 1 (pos 0) (omega
    (arith, c.requires.four))) in
    let d = to_z-coordinate (get_or xs 2 (pos 0)) (c.requires.in_range 2 (pos 0) (omega
    (arith, c.requires.four))) in
    let e = to_z-coordinate (get_or xs 3 (pos 0)) (c.requires.in_range 3 (pos 0) (omega
    (arith, c.requires.four))) in
    cc
