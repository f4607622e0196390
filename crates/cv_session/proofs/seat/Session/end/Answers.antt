use Rattle.cv_session.proofs.RunLemmas.{both_ok, ends_with}
use Rattle.cv_session.proofs.seat.Session.end.Goals as goal

pub returns : goal.returns
returns c = both_ok c.give_all.result (ends_with c.args.self.now c.give_all.new.self) c.give_all.ensures.gives c.give_all.ensures.none
