-- What the reader answers is said of the bytes.
use Rattle.std.proofs.Common.{ap, ◌∙◌}
use Rattle.cv_project.specs.Errors.{answered}
use Rattle.cv_open.proofs.OpenedLemmas.{tree_said}
use Rattle.canvas.proofs.LayerLemmas.{named}
use Rattle.canvas.proofs.layers.name_at.Goals as goal

pub returns-in-Ok : goal.returns-in-Ok
returns-in-Ok c =
    let f = c.in-Ok.ensures.found in
    named c.args.bytes.now _ c.args.place _ (tree_said c.args.bytes.now f.0 f.1 ∙ ap answered f.2) c.name_in.ensures
