use Rattle.std.proofs.Common.{◌++◌, List, ap, sym, ◌∙◌, arith}
use Rattle.std.proofs.lemmas.List.{append-nil, append_assoc}
use Rattle.cv_model.specs.declared.colour.Rgba.{Rgba}
use Rattle.cv_model.specs.Views.{PixelGrid}
use Rattle.cv_model.specs.Rasters.{row_of, pixels_of}
use Rattle.cv_model.proofs.Rows.{pixels_more}
use Rattle.cv_paint.specs.Cells.{cell_pixel}
use Rattle.cv_paint.specs.Finish.{masked}
use Rattle.cv_paint.proofs.CostLemmas.{cells_first, cells_paid}
use Rattle.cv_paint.proofs.finish.put_cells.Goals as goal

pub loop-j-init : goal.loop-j-init
unfolding pixels_of
loop-j-init g c = (
  c.in_ok-row.ensures.len ∙ ap (λ (v : PixelGrid). v.w) c.view.view_is,
  omega arith,
  sym (append-nil c.args.pixels.now),
  cells_first c.args.view.now.h c.args.view.now.w c.args.steps.now,
)

pub loop-j-preserved : goal.loop-j-preserved
loop-j-preserved g c =
    let f = masked c.args.mask.now (cell_pixel c.args.style.now c.args.cells.now c.args.view.now) in (
      c.loop-j.invariant.0,
      c.poll.ensures.quiet c.if-poll.false ∙ c.loop-j.invariant.1,
      c.in_ok-put_cells_row.ensures.ok
          ∙ ap (λ (ps : List Rgba). ps ++ row_of c.args.view.now.w f c.loop-j.j) c.loop-j.invariant.2
          ∙ append_assoc c.args.pixels.now (pixels_of c.args.view.now.w c.loop-j.j f) (row_of c.args.view.now.w f c.loop-j.j)
          ∙ ap (λ (ps : List Rgba). c.args.pixels.now ++ ps) (sym (pixels_more c.args.view.now.w c.loop-j.j f)),
      cells_paid c.args.view.now.h c.args.view.now.w c.loop-j.j _ _ _
          (omega (arith, c.loop-j-test.true, ap (λ (v : PixelGrid). v.h) c.view.view_is)) c.loop-j.invariant.3
          c.in_ok-put_cells_row.ensures.cost,
    )
