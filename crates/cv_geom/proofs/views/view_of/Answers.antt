use Rattle.std.proofs.Common.{rules}
use Rattle.cv_geom.proofs.CauseLemmas.{size_cause, empty_cause, range_cause}
use Rattle.cv_geom.proofs.views.view_of.Goals as goal

pub returns-clause-answer : goal.returns-clause-answer
returns-clause-answer c = search rules

pub returns-clause-size : goal.returns-clause-size
returns-clause-size c = rw (returns-clause-answer c) (size_cause c.args.extent c.args.w c.args.h)

pub returns-clause-empty : goal.returns-clause-empty
returns-clause-empty c = rw (returns-clause-answer c) (empty_cause c.args.extent c.args.w c.args.h)

pub returns-clause-range : goal.returns-clause-range
returns-clause-range c = rw (returns-clause-answer c) (range_cause c.args.extent c.args.w c.args.h)
