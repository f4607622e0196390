-- What is kept is what the features so far give.
use Rattle.std.proofs.Common.{◌≡◌, ◌≤◌, ◌-◌, ℕ, List, take, length}
use Rattle.cv_paint.specs.Symbols.{given_by, joined_symbol}
use Rattle.cv_paint.proofs.symbols.joined_symbols.Given as goal

abbrev pub invariant-loop-at : goal.invariant-loop-at
invariant-loop-at g l = record {
  counted : g.S.Stop.yeses l.stop ≡ g.S.Stop.yeses l.fn.stop;
  within : l.at ≤ length l.rows;
  kept : (q : List ℕ) → given_by l.given q ≡ joined_symbol l.rule l.key l.column (take l.at l.rows) q;
}

abbrev pub decreases-loop-at : goal.decreases-loop-at
decreases-loop-at g l = length l.rows - l.at
