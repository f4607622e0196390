-- What was opened is reported, or a refusal ends the reads.
use Rattle.std.proofs.Common.{None, false, refl}
use Rattle.cv_outside.specs.Seen.{shelf_seen, sink_seen}
use Rattle.cv_open.specs.Opened.{opened}
use Rattle.cv_top.specs.declared.orders.Order.TheVariants.{Check}
use Rattle.cv_top.specs.Outcomes.{checked}
use Rattle.cv_top.proofs.OpenLemmas.{opened_run, stopped_run}
use Rattle.cv_top.proofs.check.check_project.Goals as goal

pub returns-in-Ok-clause-run : goal.returns-in-Ok-clause-run
returns-in-Ok-clause-run g c = λ tray.
    opened_run (Check (record { project = c.args.project.now })) (opened c.args.project.now) checked (λ found. refl)
    (shelf_seen g.F.Shelf c.args.shelf.now) (shelf_seen g.F.Shelf c.open.new.shelf) tray tray
    (sink_seen g.O.Sink c.args.out.now) (sink_seen g.O.Sink c.print_report.new.out) c.in-Ok.opened c.print_report.result
    c.in-Ok.ensures.read (c.print_report.ensures.written tray)

pub returns-in-Err-clause-run : goal.returns-in-Err-clause-run
returns-in-Err-clause-run g c = λ tray.
    stopped_run (Check (record { project = c.args.project.now })) (opened c.args.project.now) checked (λ found. refl) (λ x f. (0, λ q. refl))
    (shelf_seen g.F.Shelf c.args.shelf.now) (shelf_seen g.F.Shelf c.open.new.shelf) tray
    (sink_seen g.O.Sink c.args.out.now) c.in-Err.end c.in-Err.ensures.read

pub returns-in-Ok-clause-out_stands : goal.returns-in-Ok-clause-out_stands
returns-in-Ok-clause-out_stands g c =
    (c.print_report.ensures.written (record { tells = false; files = λ q. None; faults = 0 })).out_stands
