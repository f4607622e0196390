use Rattle.std.proofs.Common.{refl}
use Rattle.cv_event.specs.declared.entry.Act.TheVariants as act
use Rattle.cv_session.specs.Tasks.{is_done}
use Rattle.cv_session.proofs.tasks.compose_live.Goals as goal

pub returns : goal.returns
returns c = is_done (act.Finish c.args.job) refl c.in-Ok-finish.ensures.ok
