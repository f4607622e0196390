use Rattle.cv_session.proofs.ServeLemmas.{waits_none, waits_more}
use Rattle.cv_session.proofs.seat.Session.work.Goals as goal

pub wait-init : goal.wait-init
wait-init c = waits_none c.args.self.now c.args.job c.requires.none

pub wait-preserved : goal.wait-preserved
wait-preserved c = waits_more c.args.self.now c.wait.self c.work_once.new.self c.args.job c.wait.invariant c.in_ok-work_once.ensures.goes
