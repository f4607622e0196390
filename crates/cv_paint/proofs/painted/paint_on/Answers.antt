use Rattle.std.proofs.Common.{List, ◌++◌, ap, ◌∙◌}
use Rattle.std.specs.List.{flat_map}
use Rattle.cv_model.specs.declared.colour.Rgba.{Rgba}
use Rattle.cv_model.specs.Pictures.{feature_strokes}
use Rattle.cv_paint.proofs.PaintedLemmas.{laid_pixels}
use Rattle.cv_paint.proofs.painted.paint_on.Goals as goal

pub returns-clause-ok : goal.returns-clause-ok
returns-clause-ok g c =
    let scene = c.args.scene.now in
    c.in_ok-put_rows.ensures.ok
    ∙ ap (λ (ps : List Rgba). c.args.pixels.now ++ ps)
    (laid_pixels scene.view.now scene.mask.now _ _
    (λ p. flat_map (feature_strokes scene.symbols.now scene.view.now p) scene.table.now.features)
    c.requires.clear c.in_ok-lay_table.ensures.laid)
