-- An extent that the size can show has a view.
use Rattle.std.proofs.Common.{◌∙◌}
use Rattle.cv_open.proofs.CanvasLemmas.{shown_has_view}
use Rattle.cv_open.proofs.canvas.view_round.Goals as goal

pub returns : goal.returns
returns c =
    let there = shown_has_view c.args.w c.args.h c.args.extent c.requires.size c.requires.shown in
    let is = c.view_of.ensures.answer ∙ there in cc

pub unreachable-requires : goal.unreachable-requires
unreachable-requires c =
    let there = shown_has_view c.args.w c.args.h c.args.extent c.requires.size c.requires.shown in
    let is = c.view_of.ensures.answer ∙ there in cc
