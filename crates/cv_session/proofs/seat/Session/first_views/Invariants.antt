-- The first views so far are shown.
use Rattle.std.proofs.Common.{◌≡◌, ◌≤◌, [], drop, length, List}
use Rattle.cv_script.specs.declared.script.Numbered.{Numbered}
use Rattle.cv_session.specs.Plays.{Opens}
use Rattle.cv_session.specs.Seats.{now, Moves}
use Rattle.cv_session.specs.Runs.{AreOfSize}
use Rattle.cv_session.proofs.seat.Session.first_views.Given as goal

abbrev pub invariant-loop-view : goal.invariant-loop-view
invariant-loop-view l = record {
  at : l.canvas ≡ l.view-index;
  few : length l.views ≤ 4294967295;
  sizes : AreOfSize (now l.self) l.views;
  moves : (cs : List Numbered) → Moves (Opens 0 l.views) cs l.fn.self (Opens l.view-index (drop l.view-index l.views)) cs l.self [];
}
