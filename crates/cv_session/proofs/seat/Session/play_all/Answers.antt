use Rattle.std.proofs.Common.{refl, sym, subst, IsTrue, arith}
use Rattle.cv_outside.specs.Seen.{tray_seen}
use Rattle.cv_session.proofs.OutputLemmas.{spares_more}
use Rattle.cv_session.proofs.RunLemmas.{item_at, through_none, through_next, fits_next, factors_at, stands_on, stands_still}
use Rattle.cv_session.proofs.seat.Session.play_all.Goals as goal

pub loop-next-init : goal.loop-next-init
loop-next-init g c = record {
  script = c.requires.script;
  fits = c.requires.fits;
  few = omega arith;
  stands = stands_still (tray_seen g.T.Tray c.args.tray.now);
  spares = λ t name other. refl;
  through = through_none c.args.script.now c.args.self.now (tray_seen g.T.Tray c.args.tray.now);
}

pub play-requires-clause-factors : goal.play-requires-clause-factors
play-requires-clause-factors g c =
    factors_at c.args.script.now c.loop-next.next-index c.next-item.result c.loop-next-test.true c.next-item.is c.requires.script

pub loop-next-preserved : goal.loop-next-preserved
loop-next-preserved g c =
    let at = item_at c.args.script.now c.loop-next.next-index c.next-item.result c.loop-next-test.true c.next-item.is in
    let i = c.loop-next.invariant in
    let few = c.in-Ok.ensures.few in
    let old = tray_seen g.T.Tray c.args.tray.now in
    let mid = tray_seen g.T.Tray c.loop-next.tray in
    let new = tray_seen g.T.Tray c.play.new.tray in
    record {
      script = c.requires.script;
      fits = fits_next c.loop-next.self c.play.new.self c.next-item.result c.in-Ok.count mid new i.fits c.in-Ok.ensures.ends;
      few = omega (arith, i.few, few);
      stands = stands_on old mid new i.stands c.in-Ok.ensures.stands;
      spares = λ t. spares_more c.args.script.now c.loop-next.next-index c.next-item.result old.files mid.files new.files at.1 (i.spares t)
          (c.in-Ok.ensures.spares (subst IsTrue (sym i.stands.told) t));
      through = through_next c.args.script.now c.args.self.now c.loop-next.self c.play.new.self c.next-item.result c.loop-next.next-index c.loop-next.images c.in-Ok.count
          old mid new at.0 i.through i.stands.told c.in-Ok.ensures.ends;
    }
