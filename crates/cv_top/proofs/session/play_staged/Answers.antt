-- The script is through, or the session stopped.
use Rattle.std.proofs.Common.{refl, sym, subst}
use Rattle.cv_outside.specs.Seen.{tray_seen, sink_seen}
use Rattle.cv_open.specs.declared.ends.End.{End}
use Rattle.cv_top.specs.Runs.{IsPlayRun}
use Rattle.cv_top.proofs.SessionLemmas.{done_played, error_played, error_untouched}
use Rattle.cv_top.proofs.session.play_staged.Goals as goal

pub returns-in-Ok-clause-played : goal.returns-in-Ok-clause-played
returns-in-Ok-clause-played g c =
    done_played c.args.staged c.in-Ok.report c.print_journal.result (tray_seen g.T.Tray c.args.tray.now) (tray_seen g.T.Tray c.play.new.tray)
    (sink_seen g.O.Sink c.args.out.now) (sink_seen g.O.Sink c.print_journal.new.out) c.in-Ok.ensures.stands c.in-Ok.ensures.ends
    (c.print_journal.ensures.written (tray_seen g.T.Tray c.play.new.tray))

pub returns-in-Err : goal.returns-in-Err
returns-in-Err g c =
    let tray = tray_seen g.T.Tray c.args.tray.now in
    let tray' = tray_seen g.T.Tray c.play.new.tray in
    let out = sink_seen g.O.Sink c.args.out.now in record {
      untouched = error_untouched c.end_of_error.result c.in-Err.error _ c.end_of_error.ensures (refl {a = c.args.out.now});
      played = subst (λ (end : End). IsPlayRun c.args.staged end tray tray' out out) (sym c.end_of_error.ensures)
          (error_played c.args.staged c.in-Err.error tray tray' out c.in-Err.ensures.stands c.in-Err.ensures.ends c.in-Err.ensures.spares);
    }
