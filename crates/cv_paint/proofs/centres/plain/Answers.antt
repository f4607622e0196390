use Rattle.std.proofs.Common.{List, ◌++◌, ◌*◌, length, ap, sym, ◌∙◌}
use Rattle.cv_model.specs.declared.colour.Rgba.{Rgba}
use Rattle.cv_model.specs.Views.{PixelGrid}
use Rattle.cv_model.specs.Rasters.{pixels_of}
use Rattle.cv_model.specs.Pictures.{pixel}
use Rattle.cv_model.proofs.Rows.{length_pixels}
use Rattle.cv_paint.proofs.centres.plain.Goals as goal

pub of-image-requires : goal.of-image-requires
of-image-requires g c =
    let view = c.args.piece.now.view in
    let f = pixel c.value.result.now.parts view in
    ap length c.in_ok-put_rows.ensures.ok
    ∙ ap (λ (ps : List Rgba). length (ps ++ pixels_of view.w view.h f)) c.in_ok-pixels.ensures
    ∙ length_pixels view.w view.h f
    ∙ sym (ap (λ (v : PixelGrid). v.w * v.h) c.view.view_is)
