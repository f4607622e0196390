use Rattle.std.proofs.Common.{w64, FitsSigned, rules}
use Rattle.std.proofs.lemmas.Int.{to_z-of_z}
use Rattle.cv_event.proofs.lines.push_view_end.Goals as goal

pub returns : goal.returns
returns c =
    let left : FitsSigned w64 c.view.inside.lx2 = search rules in
    let top : FitsSigned w64 c.view.inside.ty2 = search rules in
    let unit : FitsSigned w64 c.view.inside.u = search rules in
    let numbers =
    rw (
      to_z-of_z w64 c.view.inside.lx2 left,
      to_z-of_z w64 c.view.inside.ty2 top,
      to_z-of_z w64 c.view.inside.u unit,
    ) at c.push_numbers.ensures in
    rw (← c.view.view_is) numbers
