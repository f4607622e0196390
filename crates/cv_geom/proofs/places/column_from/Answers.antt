use Rattle.std.proofs.Common.{◌≡◌, ◌∙◌, ap, w64, FitsSigned, rules}
use Rattle.std.proofs.lemmas.Int.{to_z-of_z}
use Rattle.cv_model.specs.Views.{PixelGrid}
use Rattle.cv_geom.proofs.PlaceLemmas.{column-same}
use Rattle.cv_geom.proofs.places.column_from.Goals as goal

pub returns : goal.returns
returns c =
    let v = c.args.view.now in
    let size : c.view.inside.w ≡ v.w = ap (λ (g : PixelGrid). g.w) c.view.view_is in
    let fits : FitsSigned w64 c.way_before.result = search rules in
    let falls = rw (size, to_z-of_z w64 c.way_before.result fits) at c.count.ensures in
    record {
      low_in = falls.low_in;
      high_in = falls.high_in;
      falls = λ i from below.
          column-same v c.args.sides.now i c.way_before.result c.args.x c.requires.sides
          (rw (to_z-of_z w64 c.args.x c.ranges.x) at c.way_before.ensures)
          ∙ falls.falls i from below;
    }
