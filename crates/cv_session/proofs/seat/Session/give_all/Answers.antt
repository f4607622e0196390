use Rattle.cv_session.proofs.ServeLemmas.{gives_none, gives_more}
use Rattle.cv_session.proofs.seat.Session.give_all.Goals as goal

pub loop-self-init : goal.loop-self-init
loop-self-init c = gives_none c.args.self.now

pub loop-self-preserved : goal.loop-self-preserved
loop-self-preserved c = gives_more c.args.self.now c.loop-self.self c.give_first.new.self c.loop-self.invariant c.in_ok-give_first.ensures
