use Rattle.std.proofs.Common.{rules}
use Rattle.cv_geom.specs.Views.{moved}
use Rattle.cv_geom.proofs.CauseLemmas.{kept_cause}
use Rattle.cv_geom.proofs.views.pan.Goals as goal

pub returns-clause-answer : goal.returns-clause-answer
returns-clause-answer c = search rules

pub returns-clause-range : goal.returns-clause-range
returns-clause-range c = rw (returns-clause-answer c) (kept_cause (moved c.args.view.now c.args.dx c.args.dy))
