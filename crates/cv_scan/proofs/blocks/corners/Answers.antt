use Rattle.std.proofs.Common.{◌∙◌, ap, ◌%◌, ◌==◌}
use Rattle.cv_model.specs.Polygons.{crossings, edges}
use Rattle.cv_scan.proofs.BlockLemmas.{round-inside, five-items}
use Rattle.cv_scan.proofs.blocks.corners.Goals as goal

pub returns-then-go_round : goal.returns-then-go_round
returns-then-go_round c = λ p.
    let a = c.a-item.result in
    let b = c.b-item.result in
    let m = c.c-item.result in
    let d = c.d-item.result in
    let e = c.e-item.result in
    let points =
    five-items c.args.points.now a b m d e _ _ _ _ _ c.in-len5.len_at_least c.in-len5.len_below c.a-item.is c.b-item.is
    c.c-item.is c.d-item.is c.e-item.is in
    ap (λ xs. crossings p (edges xs) % 2 == 1) points ∙ round-inside p a b m d e (c.go_round.ensures c.if-go_round.true)
