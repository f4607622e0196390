-- The commands so far are through, and so many files were put.
use Rattle.std.proofs.Common.{◌≤◌, drop, IsTrue}
use Rattle.cv_event.specs.TextLaws.{FitsOpening}
use Rattle.cv_outside.specs.Seen.{tray_seen, TrayStands}
use Rattle.cv_session.specs.Playable.{IsPlayable}
use Rattle.cv_session.specs.Files.{Spares}
use Rattle.cv_session.specs.Runs.{Through}
use Rattle.cv_session.proofs.seat.Session.play_all.Given as goal

abbrev pub invariant-loop-next : goal.invariant-loop-next
invariant-loop-next g l = record {
  script : IsPlayable l.script;
  fits : FitsOpening l.self.history.opening;
  few : l.images ≤ l.next-index;
  stands : TrayStands (tray_seen g.T.Tray l.fn.tray) (tray_seen g.T.Tray l.tray);
  spares : IsTrue (tray_seen g.T.Tray l.fn.tray).tells
      → Spares l.script (tray_seen g.T.Tray l.fn.tray).files (tray_seen g.T.Tray l.tray).files;
  through :
      Through l.script l.fn.self l.self (drop l.next-index l.script) l.images (tray_seen g.T.Tray l.fn.tray)
      (tray_seen g.T.Tray l.tray);
}
