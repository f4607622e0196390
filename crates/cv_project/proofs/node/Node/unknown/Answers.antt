use Rattle.std.proofs.Common.{ap, ◌∙◌}
use Rattle.cv_project.specs.declared.refusal.Refusal.TheVariants.{Unknown}
use Rattle.cv_project.proofs.PathLemmas.{path_text-Field}
use Rattle.cv_project.proofs.node.Node.unknown.Goals as goal

pub returns-in-Ok : goal.returns-in-Ok
returns-in-Ok c = λ _. ap Unknown (c.in-Ok.ensures ∙ path_text-Field _ c.args.key)
