use Rattle.cv_project.specs.Layers.{layer_names}
use Rattle.cv_project.proofs.LayerLemmas.{not_equal}
use Rattle.cv_project.proofs.layer.only_fields.Goals as goal

pub returns-then-version-eq1 : goal.returns-then-version-eq1
unfolding layer_names
returns-then-version-eq1 c = rw c.if-version-eq1.true c.no_others.ensures

pub returns-else-version-eq1 : goal.returns-else-version-eq1
unfolding layer_names
returns-else-version-eq1 c = rw
    (not_equal c.args.version 1 c.if-version-eq1.false) c.no_others-else-version-eq1.ensures
