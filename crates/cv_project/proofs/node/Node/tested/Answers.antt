use Rattle.std.proofs.Common.{Err, sym, ap, ◌∙◌}
use Rattle.cv_project.specs.declared.refusal.Refusal.TheVariants.{Limit}
use Rattle.cv_project.specs.Fields.{tested}
use Rattle.cv_project.proofs.PathLemmas.{path_text-Field}
use Rattle.cv_project.proofs.node.Node.tested.Goals as goal

pub returns-in-Ok-clause-exact : goal.returns-in-Ok-clause-exact
unfolding tested
returns-in-Ok-clause-exact c = λ _. rw c.if-test.false (sym (ap (λ p. Err (Limit p)) (c.in-Ok.ensures
    ∙ path_text-Field _ c.args.name)))
