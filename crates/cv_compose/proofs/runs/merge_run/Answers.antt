use Rattle.std.proofs.Common.{map, ap, sym, ◌∙◌, arith}
use Rattle.cv_model.specs.Blends.{effective}
use Rattle.cv_compose.proofs.RunLemmas.{colours_merged, clear_run}
use Rattle.cv_compose.proofs.runs.merge_run.Goals as goal

-- nothing of the layer is seen
pub returns-then-is_clear : goal.returns-then-is_clear
returns-then-is_clear c =
    let weighed_is = c.weigh.ensures ∙ ap (map (λ a. effective a c.args.opacity)) (c.take_plane.ensures ∙ c.take_words.ensures.alpha) in
    sym (clear_run c.args.opacity c.args.mode c.args.r.now c.args.g.now c.args.b.now c.args.pixels.now
    c.requires.red (λ k. let h = c.type_inv.r k in omega arith) (λ k. let h = c.type_inv.g k in omega arith)
    (λ k. let h = c.type_inv.b k in omega arith)
    (rw weighed_is at (sym c.is_clear.ensures ∙ c.if-is_clear.true)))

-- each plane is merged with its channels of the layer
pub returns : goal.returns
returns c =
    let weighed_is = c.weigh.ensures ∙ ap (map (λ a. effective a c.args.opacity)) (c.take_plane.ensures ∙ c.take_words.ensures.alpha) in
    let red = c.take_plane-2.ensures ∙ c.take_words.ensures.red in
    let green = c.take_plane-3.ensures ∙ c.take_words.ensures.green in
    let blue = c.take_plane-4.ensures ∙ c.take_words.ensures.blue in
    rw (c.merge_channels.ensures, c.merge_channels-2.ensures, c.merge_channels-3.ensures, red, green, blue, weighed_is)
    (colours_merged c.args.opacity c.args.mode c.args.r.now c.args.g.now c.args.b.now c.args.pixels.now)
