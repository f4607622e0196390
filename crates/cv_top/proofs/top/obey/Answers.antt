-- `check` leaves the tray alone.
use Rattle.std.proofs.Common.{refl, subst, sym}
use Rattle.cv_outside.proofs.SeenLemmas.{tray_stays}
use Rattle.cv_outside.specs.Seen.{tray_seen}
use Rattle.cv_top.specs.declared.orders.Order.{Order}
use Rattle.cv_top.specs.Runs.{Obeys}
use Rattle.cv_top.proofs.RunLemmas.{untouched_tray}
use Rattle.cv_top.proofs.top.obey.Goals as goal

pub returns-in-Check : goal.returns-in-Check
returns-in-Check g c =
    let tray = tray_seen g.T.Tray c.args.tray.now in
    subst (λ (order : Order). Obeys g.F.Shelf g.T.Tray g.O.Sink order c.check.result c.args.shelf.now c.check.new.shelf
    c.args.tray.now c.args.tray.now c.args.out.now c.check.new.out) (sym c.in-Check.is) (record {
      untouched = untouched_tray c.check.result _ _ (refl {a = c.args.tray.now}) c.check.ensures.untouched;
      shelf_stands = c.check.ensures.shelf_stands;
      tray_stands = tray_stays tray;
      out_stands = c.check.ensures.out_stands;
      run = c.check.ensures.run tray;
    })
