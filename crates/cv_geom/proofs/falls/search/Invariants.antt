use Rattle.std.proofs.Common.{◌≡◌, ℕ, Bool, ◌≤◌, ◌<◌, ◌+◌}
use Rattle.cv_geom.specs.Falls.{FallsAt}
use Rattle.cv_geom.proofs.falls.search.Given as goal

-- the number sought is one of those left
abbrev pub invariant-loop-room : goal.invariant-loop-room
invariant-loop-room g l = record {
  from : l.fn.low ≤ l.at;
  end : l.at + l.room ≤ l.fn.high;
  sought :
      (p : ℕ → Bool) (t : ℕ)
      → ((k : ℕ) (r : Bool) → l.fn.low ≤ k → k < l.fn.high → g.F.Fn.post l.fn.test (k, tt) r → r ≡ p k)
      → FallsAt p l.fn.low l.fn.high t → (l.at ≤ t) × (t ≤ l.at + l.room);
}

abbrev pub decreases-loop-room : goal.decreases-loop-room
decreases-loop-room g l = l.room
