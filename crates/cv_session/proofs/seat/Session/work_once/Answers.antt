use Rattle.std.proofs.lemmas.Result.{on_ok_weaker}
use Rattle.cv_session.proofs.WaitLemmas.{once_done, once_held, not_nothing}
use Rattle.cv_session.proofs.seat.Session.work_once.Goals as goal

pub unreachable-requires : goal.unreachable-requires
unreachable-requires c =
    not_nothing c.args.self.now c.take_task.new.self c.args.job c.known.ensures c.requires.none c.requires.live (rw c.in-Nothing.is at c.in_ok-take_task.ensures)

pub returns-in-Hit : goal.returns-in-Hit
returns-in-Hit c =
    once_done c.args.self.now c.take_task.new.self c.args.job c.in_ok-take_task.field-0 c.in-Hit.is c.requires.none c.requires.live c.in_ok-take_task.ensures

pub returns-in-Held : goal.returns-in-Held
returns-in-Held c =
    on_ok_weaker c.give_first.result
    (once_held c.args.self.now c.take_task.new.self c.give_first.new.self c.args.job c.requires.none c.requires.live (rw c.in-Held.is at c.in_ok-take_task.ensures))
    c.give_first.ensures
