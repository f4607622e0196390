use Rattle.std.proofs.Common.{pos, ◌≤ℤ◌, ap, w64, FitsSigned, rules}
use Rattle.std.proofs.lemmas.Int.{to_z-of_z}
use Rattle.cv_model.specs.Positions.{doubled}
use Rattle.cv_model.specs.Views.{PixelGrid, centre_of}
use Rattle.cv_scan.proofs.TermLemmas.{place-falls, ends-rise}
use Rattle.cv_scan.proofs.terms.column_of_place.Goals as goal

pub returns : goal.returns
returns c =
    let v = c.args.view.now in
    let unit : pos 1 ≤ℤ v.u = rw (ap (λ (g : PixelGrid). g.u) c.view.view_is) at c.view.invariant.unit in
    let fits : FitsSigned w64 c.args.place.column = search rules in
    let column_is = to_z-of_z w64 c.args.place.column fits in
    let rise =
    ends-rise (centre_of v 0 c.args.row) (doubled c.args.low) (doubled c.args.high) c.requires.low c.requires.high in
    place-falls v c.args.row c.nearest.result c.args.low c.args.high c.args.columns c.args.place unit rise
    c.requires.low c.requires.high c.requires.place (rw column_is at c.nearest.ensures)
