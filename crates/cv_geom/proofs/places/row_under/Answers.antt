use Rattle.std.proofs.Common.{◌≡◌, ◌∙◌, ap, w64, FitsSigned, rules}
use Rattle.std.proofs.lemmas.Int.{to_z-of_z}
use Rattle.cv_model.specs.Views.{PixelGrid}
use Rattle.cv_geom.proofs.PlaceLemmas.{row-same}
use Rattle.cv_geom.proofs.places.row_under.Goals as goal

pub returns : goal.returns
returns c =
    let v = c.args.view.now in
    let size : c.view.inside.h ≡ v.h = ap (λ (g : PixelGrid). g.h) c.view.view_is in
    let fits : FitsSigned w64 c.way_down.result = search rules in
    let falls = rw (size, to_z-of_z w64 c.way_down.result fits) at c.count.ensures in
    record {
      low_in = falls.low_in;
      high_in = falls.high_in;
      falls = λ j from below.
          row-same v c.args.sides.now j c.way_down.result c.args.y c.requires.sides
          (rw (to_z-of_z w64 c.args.y c.ranges.y) at c.way_down.ensures)
          ∙ falls.falls j from below;
    }
