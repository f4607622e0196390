use Rattle.cv_event.specs.declared.refused.Reason.TheVariants as reason
use Rattle.cv_session.proofs.ObeyLemmas.{on_ok, none_is, start_enters, start_unknown, start_no_view, start_too_many}
use Rattle.cv_session.proofs.MoveLemmas.{declines_behind}
use Rattle.cv_session.proofs.seat.Session.play_start.Goals as goal

pub returns-in-Ok : goal.returns-in-Ok
returns-in-Ok c = start_enters c.args.self.now c.start.new.self c.args.line c.args.canvas c.in-Ok.field-0 c.in-Ok.ensures.ok

pub returns-in-Err-UnknownCanvas : goal.returns-in-Err-UnknownCanvas
returns-in-Err-UnknownCanvas c =
    let h = rw c.in-Err-UnknownCanvas.field-0-is at c.in-Err-UnknownCanvas.ensures.answer in
    on_ok c.refuse.result
    (λ f. start_unknown c.args.self.now c.refuse.new.self c.args.line c.args.canvas (none_is _ h)
    (declines_behind c.args.self.now c.start.new.self c.refuse.new.self c.args.line reason.UnknownCanvas c.in-Err-UnknownCanvas.ensures.err f))
    c.refuse.ensures

pub returns-in-Err-NoView : goal.returns-in-Err-NoView
returns-in-Err-NoView c =
    let h = rw c.in-Err-NoView.field-0-is at c.in-Err-NoView.ensures.answer in
    on_ok c.refuse-in-Err-NoView.result
    (λ f. start_no_view c.args.self.now c.refuse-in-Err-NoView.new.self c.args.line c.args.canvas h.0 (none_is _ h.1)
    (declines_behind c.args.self.now c.start.new.self c.refuse-in-Err-NoView.new.self c.args.line reason.NoView c.in-Err-NoView.ensures.err f))
    c.refuse-in-Err-NoView.ensures

pub returns-in-Err-TooManyJobs : goal.returns-in-Err-TooManyJobs
returns-in-Err-TooManyJobs c =
    let h = rw c.in-Err-TooManyJobs.field-0-is at c.in-Err-TooManyJobs.ensures.answer in
    on_ok c.refuse-in-Err-TooManyJobs.result
    (λ f. start_too_many c.args.self.now c.refuse-in-Err-TooManyJobs.new.self c.args.line c.args.canvas h.0 h.1
    (declines_behind c.args.self.now c.start.new.self c.refuse-in-Err-TooManyJobs.new.self c.args.line reason.TooManyJobs c.in-Err-TooManyJobs.ensures.err f))
    c.refuse-in-Err-TooManyJobs.ensures
