use Rattle.std.proofs.Common.{ap, ◌∙◌}
use Rattle.std.specs.List.{range_with_len}
use Rattle.std.proofs.lemmas.Simd.{map-map}
use Rattle.cv_model.specs.Rasters.{row_of}
use Rattle.cv_canvas.specs.Cover.{is_covered_in}
use Rattle.cv_canvas.specs.Opaque.{Inked, inked, inked_in}
use Rattle.cv_canvas.proofs.opaque.OpaqueCanvasCanvas.row.Goals as goal

pub returns : goal.returns
returns c =
    c.ink.ensures
    ∙ map-map (inked c.self.inside.colour) (λ i. is_covered_in c.self.inside.cover i c.args.row)
    (range_with_len 0 c.self.inside.cover.width)
    ∙ ap (λ (s : Inked). row_of s.cover.width (inked_in s) c.args.row) c.self.view_is
