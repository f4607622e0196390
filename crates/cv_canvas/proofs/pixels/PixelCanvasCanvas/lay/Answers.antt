use Rattle.std.proofs.Common.{subst, sym, ap, ◌∙◌}
use Rattle.cv_model.specs.declared.colour.Rgba.{Rgba}
use Rattle.cv_model.specs.Colours.{over, transparent}
use Rattle.cv_model.specs.Rasters.{Raster}
use Rattle.cv_geom.specs.Runs.{IsWithin}
use Rattle.cv_canvas.specs.Canvas.{with_run}
use Rattle.cv_canvas.specs.Pixels.{pixel_in}
use Rattle.cv_canvas.proofs.PlaceLemmas.{laid_by}
use Rattle.cv_canvas.proofs.pixels.PixelCanvasCanvas.lay.Goals as goal

pub returns-clause-laid : goal.returns-clause-laid
returns-clause-laid c =
    let inside = subst (λ (s : Raster Rgba). IsWithin s.width s.height c.args.run) (sym c.self.view_is)
    c.requires.run in
    laid_by (over c.args.colour) transparent c.self.inside.width c.self.inside.height c.self.inside.pixels
    c.deref_mut.result.now c.lay_with.new.pixels c.args.run c.deref_mut.ensures.value c.deref_mut.ensures.len
    c.self.invariant inside c.lay_with.ensures
    ∙ ap (λ (s : Raster Rgba). with_run c.args.colour (pixel_in s) c.args.run) c.self.view_is
