use Rattle.cv_session.proofs.ObeyLemmas.{on_ok, job_there, cancel_enters, cancel_ended}
use Rattle.cv_session.specs.Responses.{ended_reason}
use Rattle.cv_session.proofs.MoveLemmas.{declines_same}
use Rattle.cv_session.proofs.seat.Session.cancel_job.Goals as goal

pub unreachable-requires : goal.unreachable-requires
unreachable-requires c =
    let h = rw c.in-Err-UnknownJob.field-0-is at c.in-Err-UnknownJob.ensures.answer in
    job_there c.args.self.now c.args.canvas c.args.job c.requires.last h

pub returns-in-Ok : goal.returns-in-Ok
returns-in-Ok c = cancel_enters c.args.self.now c.cancel.new.self c.args.line c.args.canvas c.args.job c.requires.there c.requires.last c.in-Ok.ensures.ok

pub returns-in-Err-Ended : goal.returns-in-Err-Ended
returns-in-Err-Ended c =
    let h = rw c.in-Err-Ended.field-0-is at c.in-Err-Ended.ensures.answer in
    on_ok c.refuse.result
    (λ f. cancel_ended c.args.self.now c.refuse.new.self c.args.line c.args.canvas c.args.job c.in-Err-Ended.how c.requires.there c.requires.last h
    (declines_same c.args.self.now c.cancel.new.self c.refuse.new.self c.args.line (ended_reason c.in-Err-Ended.how) c.in-Err-Ended.ensures.err f))
    (rw c.ended_reason.ensures at c.refuse.ensures)
