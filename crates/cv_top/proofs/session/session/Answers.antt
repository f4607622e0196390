-- What `clap` reads is the session that was asked for; else nothing is read.
use Rattle.std.proofs.Common.{refl}
use Rattle.cv_outside.proofs.SeenLemmas.{tray_stays, sink_stays}
use Rattle.cv_outside.specs.Seen.{shelf_seen, tray_seen, sink_seen}
use Rattle.cv_open.proofs.ReadingLemmas.{shelf_stays, stays}
use Rattle.cv_open.specs.declared.ends.End.TheVariants.{NoMemory}
use Rattle.cv_top.specs.declared.orders.Order.TheVariants.{Session}
use Rattle.cv_top.specs.declared.stage.Staged.{Staged}
use Rattle.cv_top.specs.Outcomes.{Stopped}
use Rattle.cv_top.specs.Sessions.{session_read}
use Rattle.cv_top.proofs.OpenLemmas.{stopped_run}
use Rattle.cv_top.proofs.SessionLemmas.{stops_given, stops_quietly}
use Rattle.cv_top.proofs.session.session.Goals as goal

pub returns-in-Err : goal.returns-in-Err
returns-in-Err g c =
    let order = c.args.order.now in
    let shelf = shelf_seen g.F.Shelf c.args.shelf.now in
    let all = session_read order.project order.script in record {
      untouched = tt;
      shelf_stands = shelf_stays shelf;
      tray_stands = tray_stays (tray_seen g.T.Tray c.args.tray.now);
      out_stands = sink_stays (sink_seen g.O.Sink c.args.out.now);
      run = stopped_run (Session order) all (λ (s : Staged). Stopped s.script) (stops_given order) stops_quietly shelf shelf (tray_seen g.T.Tray c.args.tray.now)
          (sink_seen g.O.Sink c.args.out.now) NoMemory (all, stays all shelf);
    }
