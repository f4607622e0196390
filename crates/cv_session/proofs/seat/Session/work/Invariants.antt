use Rattle.cv_session.specs.Seats.{now}
use Rattle.cv_session.specs.Tasks.{WaitsOn, unclaimed}
use Rattle.cv_session.proofs.seat.Session.work.Given as goal

abbrev pub invariant-wait : goal.invariant-wait
invariant-wait l = WaitsOn l.fn.self l.self l.job

abbrev pub decreases-wait : goal.decreases-wait
decreases-wait l = unclaimed (now l.self).jobs
