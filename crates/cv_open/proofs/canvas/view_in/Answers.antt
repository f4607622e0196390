-- A canvas that isn't there is refused.
use Rattle.std.proofs.Common.{length, arith}
use Rattle.std.proofs.lemmas.Bool.Decides.{nat_tests}
use Rattle.std.proofs.lemmas.Option.{slice_get_past}
use Rattle.std.specs.Prelude.{◌≤◌, slice_get}
use Rattle.cv_open.proofs.CanvasLemmas.{none_said}
use Rattle.cv_open.proofs.canvas.view_in.Goals as goal

pub returns-in-None : goal.returns-in-None
returns-in-None c =
    let e = c.in-None.ensures.lookup.0 in
    let past : length c.canvases.result.now ≤ c.args.canvas = grind (arith, nat_tests) in
    let past : length c.args.file.now.canvases ≤ c.args.canvas = rw c.canvases.ensures at past in
    none_said c.args.canvas (slice_get c.args.file.now.canvases c.args.canvas) c.lacking.result
    (slice_get_past c.args.file.now.canvases c.args.canvas past) c.lacking.ensures
