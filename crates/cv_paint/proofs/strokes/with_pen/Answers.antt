use Rattle.std.proofs.Common.{ap, w64, FitsSigned, rules}
use Rattle.std.proofs.lemmas.Int.{to_z-of_z}
use Rattle.cv_model.specs.Pens.{PenParts}
use Rattle.cv_paint.proofs.strokes.with_pen.Goals as goal

-- the colour and the half-width are those of the pen
pub returns-in-Some : goal.returns-in-Some
returns-in-Some c =
    let colour = ap (λ (pen : PenParts). pen.colour) c.pen.view_is in
    let fits : FitsSigned w64 c.half_side.result = search rules in
    let radius = to_z-of_z w64 c.half_side.result fits in
    let drawn = rw (radius, c.half_side.ensures.value, c.side.ensures.width, colour) at c.with_paths.ensures in
    rw c.in-Some.is drawn
