-- What was opened is painted, or a refusal ends the reads.
use Rattle.std.proofs.Common.{Ok, Err, refl, subst}
use Rattle.cv_outside.proofs.SeenLemmas.{tray_stays, sink_stays}
use Rattle.cv_outside.specs.Seen.{shelf_seen, tray_seen, sink_seen}
use Rattle.cv_open.specs.Canvases.{shown}
use Rattle.cv_top.specs.declared.orders.Order.TheVariants.{Paint}
use Rattle.cv_top.specs.Outcomes.{painted}
use Rattle.cv_open.specs.Readings.{only, LeadsTo, IsReadAs}
use Rattle.cv_top.specs.Parts.{PaintParts}
use Rattle.cv_top.specs.Runs.{IsWritten}
use Rattle.cv_top.proofs.OpenLemmas.{opened_run, stopped_run, stopped_untouched}
use Rattle.cv_top.proofs.RunLemmas.{made_untouched}
use Rattle.cv_top.proofs.paint.paint_canvas.Goals as goal

pub returns-in-Ok : goal.returns-in-Ok
returns-in-Ok g c =
    let order = c.args.order.now in
    let shelf = shelf_seen g.F.Shelf c.args.shelf.now in
    let shelf' = shelf_seen g.F.Shelf c.open_canvas.new.shelf in
    let tray = tray_seen g.T.Tray c.args.tray.now in
    let tray' = tray_seen g.T.Tray c.paint_shown.new.tray in
    let out = sink_seen g.O.Sink c.args.out.now in
    let out' = sink_seen g.O.Sink c.paint_shown.new.out in record {
      untouched = made_untouched c.paint_shown.result _ _ c.paint_shown.ensures.untouched;
      shelf_stands = c.in-Ok.ensures.stands;
      tray_stands = c.paint_shown.ensures.written.tray_stands;
      out_stands = c.paint_shown.ensures.written.out_stands;
      run = opened_run (Paint order) (shown order.project order.canvas) (painted order) (λ found. refl) shelf shelf' tray tray' out out'
          c.in-Ok.shown c.paint_shown.result
          (subst (λ (o : PaintParts). LeadsTo (shown o.project o.canvas) (only (Ok c.in-Ok.shown)) shelf shelf') c.order.view_is c.in-Ok.ensures.read)
          (subst (λ (o : PaintParts). IsWritten c.paint_shown.result (painted o c.in-Ok.shown) tray tray' out out') c.order.view_is
          c.paint_shown.ensures.written);
    }

pub returns-in-Err : goal.returns-in-Err
returns-in-Err g c =
    let order = c.args.order.now in
    let shelf = shelf_seen g.F.Shelf c.args.shelf.now in
    let shelf' = shelf_seen g.F.Shelf c.open_canvas.new.shelf in
    let tray = tray_seen g.T.Tray c.args.tray.now in
    let out = sink_seen g.O.Sink c.args.out.now in
    let read : IsReadAs (shown order.project order.canvas) (Err c.in-Err.end) shelf shelf' =
    subst (λ (o : PaintParts). IsReadAs (shown o.project o.canvas) (Err c.in-Err.end) shelf shelf') c.order.view_is c.in-Err.ensures.read in record {
      untouched = stopped_untouched (shown order.project order.canvas) c.in-Err.end shelf shelf' _ _ read
          (refl {a = c.args.tray.now}) (refl {a = c.args.out.now});
      shelf_stands = c.in-Err.ensures.stands;
      tray_stands = tray_stays tray;
      out_stands = sink_stays out;
      run = stopped_run (Paint order) (shown order.project order.canvas) (painted order) (λ found. refl) (λ x f. (0, λ q. refl)) shelf shelf' tray out c.in-Err.end read;
    }
