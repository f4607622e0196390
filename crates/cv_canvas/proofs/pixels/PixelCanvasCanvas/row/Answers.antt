use Rattle.std.proofs.Common.{◌<◌, subst, sym, ap, ◌∙◌}
use Rattle.cv_model.specs.declared.colour.Rgba.{Rgba}
use Rattle.cv_model.specs.Colours.{transparent}
use Rattle.cv_model.specs.Rasters.{Raster, row_of}
use Rattle.cv_canvas.specs.Pixels.{pixel_in}
use Rattle.cv_canvas.proofs.PlaceLemmas.{row_is}
use Rattle.cv_canvas.proofs.pixels.PixelCanvasCanvas.row.Goals as goal

pub returns : goal.returns
returns c =
    let below = subst (λ (s : Raster Rgba). c.args.row < s.height) (sym c.self.view_is) c.requires.row in
    c.copy_from_slice.ensures.after
    ∙ rw c.deref.ensures.value
    (row_is transparent c.self.inside.width c.self.inside.height c.self.inside.pixels.items c.args.row
    c.self.invariant below)
    ∙ ap (λ (s : Raster Rgba). row_of s.width (pixel_in s) c.args.row) c.self.view_is
