-- What was read is painted, or a refusal ends the reads.
use Rattle.std.proofs.Common.{Ok, Err, refl, subst}
use Rattle.cv_model.specs.declared.project.Source.{Source}
use Rattle.cv_outside.proofs.SeenLemmas.{tray_stays, sink_stays}
use Rattle.cv_outside.specs.Seen.{shelf_seen, tray_seen, sink_seen}
use Rattle.cv_open.specs.Opened.{layer_read}
use Rattle.cv_open.specs.declared.room.Left.{Left}
use Rattle.cv_open.specs.Readings.{only, LeadsTo, IsReadAs}
use Rattle.cv_open.specs.Rooms.{all_left}
use Rattle.cv_top.specs.declared.orders.Order.TheVariants.{Quick}
use Rattle.cv_top.specs.Opened.{quick_source}
use Rattle.cv_top.specs.Outcomes.{quick_made}
use Rattle.cv_top.proofs.OpenLemmas.{opened_run, stopped_run, stopped_untouched}
use Rattle.cv_top.proofs.QuickLemmas.{quick_can_open}
use Rattle.cv_top.proofs.RunLemmas.{made_untouched}
use Rattle.cv_top.proofs.quick.paint_source.Goals as goal

pub paint_layer-requires : goal.paint_layer-requires
paint_layer-requires g c =
    let order = c.args.order.now in
    let shelf = shelf_seen g.F.Shelf c.args.shelf.now in
    let shelf' = shelf_seen g.F.Shelf c.read_layer.new.shelf in
    quick_can_open order.fill order.csv c.in-Ok.read shelf shelf'
    (subst (λ (s : Source). LeadsTo (layer_read 0 all_left s) (only (Ok c.in-Ok.read)) shelf shelf') c.requires
    (subst (λ (left : Left). LeadsTo (layer_read 0 left c.args.source.now) (only (Ok c.in-Ok.read)) shelf shelf') c.all.ensures
    c.in-Ok.ensures.read))

pub returns-in-Ok : goal.returns-in-Ok
returns-in-Ok g c =
    let order = c.args.order.now in
    let shelf = shelf_seen g.F.Shelf c.args.shelf.now in
    let shelf' = shelf_seen g.F.Shelf c.read_layer.new.shelf in
    let tray = tray_seen g.T.Tray c.args.tray.now in
    let tray' = tray_seen g.T.Tray c.paint_layer.new.tray in
    let out = sink_seen g.O.Sink c.args.out.now in
    let out' = sink_seen g.O.Sink c.paint_layer.new.out in record {
      untouched = made_untouched c.paint_layer.result _ _ c.paint_layer.ensures.untouched;
      shelf_stands = c.in-Ok.ensures.stands;
      tray_stands = c.paint_layer.ensures.written.tray_stands;
      out_stands = c.paint_layer.ensures.written.out_stands;
      run = opened_run (Quick order) (layer_read 0 all_left (quick_source order.csv)) (quick_made order) (λ found. refl) shelf shelf' tray tray'
          out out' c.in-Ok.read c.paint_layer.result
          (subst (λ (s : Source). LeadsTo (layer_read 0 all_left s) (only (Ok c.in-Ok.read)) shelf shelf') c.requires
          (subst (λ (left : Left). LeadsTo (layer_read 0 left c.args.source.now) (only (Ok c.in-Ok.read)) shelf shelf') c.all.ensures
          c.in-Ok.ensures.read))
          c.paint_layer.ensures.written;
    }

pub returns-in-Err : goal.returns-in-Err
returns-in-Err g c =
    let order = c.args.order.now in
    let shelf = shelf_seen g.F.Shelf c.args.shelf.now in
    let shelf' = shelf_seen g.F.Shelf c.read_layer.new.shelf in
    let tray = tray_seen g.T.Tray c.args.tray.now in
    let out = sink_seen g.O.Sink c.args.out.now in
    let all = layer_read 0 all_left (quick_source order.csv) in
    let read : IsReadAs all (Err c.in-Err.end) shelf shelf' =
    subst (λ (s : Source). IsReadAs (layer_read 0 all_left s) (Err c.in-Err.end) shelf shelf') c.requires
    (subst (λ (left : Left). IsReadAs (layer_read 0 left c.args.source.now) (Err c.in-Err.end) shelf shelf') c.all.ensures
    c.in-Err.ensures.read) in record {
      untouched = stopped_untouched all c.in-Err.end shelf shelf' _ _ read (refl {a = c.args.tray.now}) (refl {a = c.args.out.now});
      shelf_stands = c.in-Err.ensures.stands;
      tray_stands = tray_stays tray;
      out_stands = sink_stays out;
      run = stopped_run (Quick order) all (quick_made order) (λ found. refl) (λ x f. (0, λ q. refl)) shelf shelf' tray out c.in-Err.end read;
    }
