use Rattle.std.proofs.Common.{sym, subst}
use Rattle.std.specs.Prelude.{IfSome}
use Rattle.cv_model.specs.Scales.{AreScales}
use Rattle.cv_project.proofs.ProjectTableLemmas.{bounded-are}
use Rattle.cv_project.proofs.parts.LayerFilePart.tree.Goals as goal

pub returns-clause-kept : goal.returns-clause-kept
returns-clause-kept c =
    let scales = c.args.self.now.scales in record {
      id = c.in_ok-always-2.ensures.kept;
      opacity = c.in_ok-always-4.ensures.kept;
      mask = c.in_ok-if_any-2.ensures.kept;
      join = c.in_ok-if_any.ensures.kept;
      style = c.in_ok-always-6.ensures.kept;
      scales = bounded-are scales.least scales.greatest
          (subst (λ o. IfSome o AreScales) c.bounded.ensures c.in_ok-if_any-3.ensures.kept);
    }
