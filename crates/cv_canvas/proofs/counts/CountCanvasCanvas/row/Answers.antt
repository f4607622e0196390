use Rattle.std.proofs.Common.{◌<◌, ℕ, List, map, subst, sym, ap, ◌∙◌}
use Rattle.std.specs.List.{range_with_len}
use Rattle.std.proofs.lemmas.Simd.{map-map}
use Rattle.cv_model.specs.Rasters.{row_of}
use Rattle.cv_canvas.specs.Canvas.{item_in}
use Rattle.cv_canvas.specs.Counts.{Counted, laid_times}
use Rattle.cv_canvas.proofs.PlaceLemmas.{row_is}
use Rattle.cv_canvas.proofs.counts.CountCanvasCanvas.row.Goals as goal

pub returns : goal.returns
returns c =
    let s = c.self.inside in
    let colour = c.args.self.now.colour in
    let below = subst (λ (k : Counted). c.args.row < k.height) (sym c.self.view_is) c.requires.row in
    c.coloured.ensures
    ∙ ap (λ (ns : List ℕ). map (laid_times colour) ns)
    (rw c.deref.ensures.value
    (row_is 0 s.width s.height s.counts.items c.args.row c.self.invariant.whole below))
    ∙ map-map (laid_times colour) (λ i. item_in 0 s.width s.counts.items i c.args.row) (range_with_len 0 s.width)
    ∙ ap (λ (k : Counted). row_of k.width (λ i j. laid_times colour (item_in 0 k.width k.counts i j)) c.args.row)
    c.self.view_is
