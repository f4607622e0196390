-- What `clap` reads is the project that was asked for; else nothing is read.
use Rattle.std.proofs.Common.{refl}
use Rattle.cv_outside.specs.Seen.{shelf_seen, sink_seen}
use Rattle.cv_open.specs.Opened.{opened}
use Rattle.cv_open.specs.declared.ends.End.TheVariants.{NoMemory}
use Rattle.cv_open.proofs.ReadingLemmas.{stays}
use Rattle.cv_top.specs.declared.orders.Order.TheVariants.{Check}
use Rattle.cv_top.specs.Outcomes.{checked}
use Rattle.cv_top.proofs.OpenLemmas.{stopped_run}
use Rattle.cv_top.proofs.check.check.Goals as goal

pub returns-in-Err-clause-run : goal.returns-in-Err-clause-run
returns-in-Err-clause-run g c = λ tray.
    stopped_run (Check c.args.order.now) (opened c.args.order.now.project) checked (λ found. refl) (λ x f. (0, λ q. refl))
    (shelf_seen g.F.Shelf c.args.shelf.now) (shelf_seen g.F.Shelf c.args.shelf.now) tray
    (sink_seen g.O.Sink c.args.out.now) NoMemory (opened c.args.order.now.project, stays _ _)
