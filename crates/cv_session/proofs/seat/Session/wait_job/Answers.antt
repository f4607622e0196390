use Rattle.std.proofs.Common.{ap, ◌∙◌, Some}
use Rattle.std.proofs.lemmas.Result.{on_ok_weaker}
use Rattle.cv_session.specs.Seats.{now}
use Rattle.cv_session.proofs.ObeyLemmas.{last_there}
use Rattle.cv_session.proofs.ServeLemmas.{wait_ends_well, wait_ends_badly}
use Rattle.cv_session.proofs.seat.Session.wait_job.Goals as goal

pub work-requires-clause-there : goal.work-requires-clause-there
work-requires-clause-there c = c.in_ok-give_all.ensures.gives.jobs c.args.job (last_there (now c.args.self.now) c.args.canvas c.args.job c.requires.last)

pub returns-in-Finished : goal.returns-in-Finished
returns-in-Finished c =
    wait_ends_well c.args.self.now c.give_all.new.self c.work.new.self c.args.line c.args.canvas c.args.job c.in_ok-work.field-0 c.requires.there c.requires.last
    c.in_ok-give_all.ensures.gives c.in_ok-give_all.ensures.none c.in_ok-work.ensures.waits c.in_ok-work.ensures.end c.in-Finished.is

pub returns-in-NoMemory : goal.returns-in-NoMemory
returns-in-NoMemory c =
    on_ok_weaker c.refuse.result
    (wait_ends_badly c.args.self.now c.give_all.new.self c.work.new.self c.refuse.new.self c.args.line c.args.canvas c.args.job c.requires.there c.requires.last
    c.in_ok-give_all.ensures.gives c.in_ok-give_all.ensures.none c.in_ok-work.ensures.waits (c.in_ok-work.ensures.end ∙ ap Some c.in-NoMemory.is)) c.refuse.ensures
