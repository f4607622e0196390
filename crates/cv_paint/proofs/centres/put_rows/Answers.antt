use Rattle.std.proofs.Common.{◌++◌, List, ap, sym, ◌∙◌, arith}
use Rattle.std.proofs.lemmas.List.{append-nil, append_assoc}
use Rattle.cv_model.specs.declared.colour.Rgba.{Rgba}
use Rattle.cv_model.specs.Rasters.{row_of, pixels_of}
use Rattle.cv_model.specs.Pictures.{pixel}
use Rattle.cv_model.proofs.Rows.{pixels_more}
use Rattle.cv_paint.proofs.centres.put_rows.Goals as goal

pub loop-j-init : goal.loop-j-init
unfolding pixels_of
loop-j-init g c = (omega arith, sym (append-nil c.args.pixels.now))

pub loop-j-preserved : goal.loop-j-preserved
loop-j-preserved g c =
    let f = pixel c.args.input.now.parts c.args.view.now in (
      c.poll.ensures.quiet c.if-poll.false ∙ c.loop-j.invariant.0,
      c.in_ok-put_row.ensures
          ∙ ap (λ (ps : List Rgba). ps ++ row_of c.args.view.now.w f c.loop-j.j) c.loop-j.invariant.1
          ∙ append_assoc c.args.pixels.now (pixels_of c.args.view.now.w c.loop-j.j f) (row_of c.args.view.now.w f c.loop-j.j)
          ∙ ap (λ (ps : List Rgba). c.args.pixels.now ++ ps) (sym (pixels_more c.args.view.now.w c.loop-j.j f)),
    )
