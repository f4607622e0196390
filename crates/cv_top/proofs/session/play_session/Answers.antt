-- What was read is played, or a refusal ends the reads.
use Rattle.std.proofs.Common.{Ok, Err, refl, subst}
use Rattle.cv_outside.proofs.SeenLemmas.{tray_stays, sink_stays}
use Rattle.cv_outside.specs.Seen.{shelf_seen, tray_seen, sink_seen}
use Rattle.cv_open.specs.Readings.{only, LeadsTo, IsReadAs}
use Rattle.cv_top.specs.declared.orders.Order.TheVariants.{Session}
use Rattle.cv_top.specs.declared.stage.Staged.{Staged}
use Rattle.cv_top.specs.Outcomes.{Stopped}
use Rattle.cv_top.specs.Parts.{SessionParts}
use Rattle.cv_top.specs.Sessions.{session_read}
use Rattle.cv_top.proofs.OpenLemmas.{stopped_run, stopped_untouched}
use Rattle.cv_top.proofs.RunLemmas.{made_untouched}
use Rattle.cv_top.proofs.SessionLemmas.{played_run, stops_given, stops_quietly}
use Rattle.cv_top.proofs.session.play_session.Goals as goal

pub returns-in-Ok : goal.returns-in-Ok
returns-in-Ok g c =
    let order = c.args.order.now in
    let shelf = shelf_seen g.F.Shelf c.args.shelf.now in
    let shelf' = shelf_seen g.F.Shelf c.stage.new.shelf in
    let tray = tray_seen g.T.Tray c.args.tray.now in
    let tray' = tray_seen g.T.Tray c.play_staged.new.tray in
    let out = sink_seen g.O.Sink c.args.out.now in
    let out' = sink_seen g.O.Sink c.play_staged.new.out in record {
      untouched = made_untouched c.play_staged.result _ _ c.play_staged.ensures.untouched;
      shelf_stands = c.in-Ok.ensures.stands;
      tray_stands = c.play_staged.ensures.played.2.tray_stands;
      out_stands = c.play_staged.ensures.played.2.out_stands;
      run = played_run order shelf shelf' tray tray' out out' c.in-Ok.staged c.play_staged.result
          (subst (λ (o : SessionParts). LeadsTo (session_read o.project o.script) (only (Ok c.in-Ok.staged)) shelf shelf') c.order.view_is c.in-Ok.ensures.read)
          c.play_staged.ensures.played;
    }

pub returns-in-Err : goal.returns-in-Err
returns-in-Err g c =
    let order = c.args.order.now in
    let shelf = shelf_seen g.F.Shelf c.args.shelf.now in
    let shelf' = shelf_seen g.F.Shelf c.stage.new.shelf in
    let tray = tray_seen g.T.Tray c.args.tray.now in
    let out = sink_seen g.O.Sink c.args.out.now in
    let read : IsReadAs (session_read order.project order.script) (Err c.in-Err.end) shelf shelf' =
    subst (λ (o : SessionParts). IsReadAs (session_read o.project o.script) (Err c.in-Err.end) shelf shelf') c.order.view_is c.in-Err.ensures.read in record {
      untouched = stopped_untouched (session_read order.project order.script) c.in-Err.end shelf shelf' _ _ read
          (refl {a = c.args.tray.now}) (refl {a = c.args.out.now});
      shelf_stands = c.in-Err.ensures.stands;
      tray_stands = tray_stays tray;
      out_stands = sink_stays out;
      run = stopped_run (Session order) (session_read order.project order.script) (λ (s : Staged). Stopped s.script) (stops_given order) stops_quietly
          shelf shelf' tray out c.in-Err.end read;
    }
