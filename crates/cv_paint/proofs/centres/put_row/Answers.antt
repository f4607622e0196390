use Rattle.std.proofs.Common.{◌++◌, ◌∷◌, [], ap, sym, ◌∙◌, append_assoc}
use Rattle.cv_model.specs.Rasters.{row_of}
use Rattle.cv_model.specs.Pictures.{pixel}
use Rattle.cv_model.proofs.Rows.{row_more}
use Rattle.cv_paint.proofs.centres.put_row.Goals as goal

-- the row goes on with the pixel that was pushed
pub loop-i-preserved : goal.loop-i-preserved
loop-i-preserved c =
    let f = pixel c.args.input.now.parts c.args.view.now in
    let row = row_of c.loop-i.i f c.args.j in
    c.in_ok-put.ensures.ok ∙ ap (λ pixels. pixels ++ c.pixel.result ∷ []) c.loop-i.invariant
    ∙ ap (λ pixel. (c.args.pixels.now ++ row) ++ pixel ∷ []) c.pixel.ensures
    ∙ append_assoc c.args.pixels.now row (f c.loop-i.i c.args.j ∷ [])
    ∙ ap (λ more. c.args.pixels.now ++ more) (sym (row_more c.loop-i.i f c.args.j))
