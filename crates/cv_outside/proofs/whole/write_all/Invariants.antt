use Rattle.std.proofs.Common.{length, take, ◌-◌, ◌≡◌, ◌≤◌, ◌++◌, IsTrue}
use Rattle.cv_outside.proofs.whole.write_all.Given as goal

-- the first `at` bytes of the text came behind the old ones
abbrev pub invariant-loop-at : goal.invariant-loop-at
invariant-loop-at g l = record {
  told : g.O.Sink.tells l.out ≡ g.O.Sink.tells l.fn.out;
  counts : g.O.Sink.faults l.fn.out ≤ g.O.Sink.faults l.out;
  within : l.at ≤ length l.text;
  bytes : IsTrue (g.O.Sink.tells l.fn.out) → g.O.Sink.taken l.out ≡ g.O.Sink.taken l.fn.out ++ take l.at l.text;
}

abbrev pub decreases-loop-at : goal.decreases-loop-at
decreases-loop-at g l = length l.text - l.at
