use Rattle.std.proofs.Common.{Bool, true, false, subst, sym, ap, ◌∙◌}
use Rattle.cv_model.specs.Rasters.{Raster}
use Rattle.cv_geom.specs.Runs.{IsWithin}
use Rattle.cv_canvas.specs.Canvas.{changed}
use Rattle.cv_canvas.specs.Cover.{is_covered_in}
use Rattle.cv_canvas.proofs.PlaceLemmas.{changed_where}
use Rattle.cv_canvas.proofs.cover.Cover.cover.Goals as goal

pub returns-clause-covered : goal.returns-clause-covered
returns-clause-covered c =
    let inside = subst (λ (s : Raster Bool). IsWithin s.width s.height c.args.run) (sym c.self.view_is) c.requires in
    changed_where (λ _. true) false c.self.inside.width c.self.inside.covered c.set.new.self c.args.run inside.end_in
    c.set.ensures.set
    ∙ ap (λ (s : Raster Bool). changed (λ _. true) (is_covered_in s) c.args.run) c.self.view_is
