use Rattle.std.proofs.Common.{◌*◌, length, ap, sym, ◌∙◌}
use Rattle.cv_model.specs.Views.{PixelGrid}
use Rattle.cv_model.specs.Pictures.{pixel}
use Rattle.cv_model.proofs.Rows.{length_pixels}
use Rattle.cv_paint.proofs.whole.paint_counted.Goals as goal

pub of-image-requires : goal.of-image-requires
of-image-requires g c =
    let view = c.args.piece.now.view in
    ap length c.in_ok-pixels.ensures.ok
    ∙ length_pixels view.w view.h (pixel c.value.result.now.parts view)
    ∙ sym (ap (λ (v : PixelGrid). v.w * v.h) c.view.view_is)
