use Rattle.std.proofs.Common.{List, ◌++◌, ap, sym, refl, ◌∙◌}
use Rattle.std.specs.List.{flat_map}
use Rattle.cv_model.specs.declared.colour.Rgba.{Rgba}
use Rattle.cv_model.specs.declared.style.Style.{Style}
use Rattle.cv_model.specs.Layers.{Core, Features, Cells, Parts}
use Rattle.cv_model.specs.Views.{centre_of}
use Rattle.cv_model.specs.Colours.{laid}
use Rattle.cv_model.specs.Pictures.{feature_strokes, cell_colour}
use Rattle.cv_layer.specs.Layers.{contents_seen}
use Rattle.cv_paint.specs.Cells.{cell_pixel}
use Rattle.cv_paint.proofs.PaintedLemmas.{painted_pixels}
use Rattle.cv_paint.proofs.painted.paint_view.Goals as goal

pub returns-in-Text-clause-ok : goal.returns-in-Text-clause-ok
returns-in-Text-clause-ok g c =
    let parts = c.args.symbols.now in
    let view = c.args.view.now in
    c.in_ok-paint_scene-in-Text.ensures.ok
    ∙ ap (λ (ps : List Rgba). c.args.pixels.now ++ ps)
    (painted_pixels view parts _ _ (Features c.in-Text.table.columns c.in-Text.table.features) c.in_ok-mask.mask
    (λ i j. laid (flat_map (feature_strokes parts view (centre_of view i j)) c.in-Text.table.features))
    c.layer-layer.ensures.layer c.input-input.ensures (ap contents_seen (sym c.in-Text.is) ∙ c.contents.ensures.contents)
    c.in_ok-mask.ensures.ok (λ i j column row. refl))

pub returns-clause-ok : goal.returns-clause-ok
returns-clause-ok g c =
    let view = c.args.view.now in
    c.in_ok-put_cells-in-Grid.ensures.ok
    ∙ ap (λ (ps : List Rgba). c.args.pixels.now ++ ps)
    (painted_pixels view c.args.symbols.now _ _ (Cells c.in-Grid.cells) c.in_ok-mask.mask
    (cell_pixel c.style.result.now c.in-Grid.cells view) c.layer-layer.ensures.layer c.input-input.ensures
    (ap contents_seen (sym c.in-Grid.is) ∙ c.contents.ensures.contents) c.in_ok-mask.ensures.ok
    (λ i j column row. ap (λ (s : Style). cell_colour s c.in-Grid.cells (centre_of view i j))
    (c.style.ensures ∙ ap (λ (k : Core). k.style)
    (c.layer-layer.ensures.layer ∙ ap (λ (p : Parts). p.own) c.input-input.ensures))))
