-- What is kept is what was kept and what the features so far give.
use Rattle.std.proofs.Common.{◌≡◌, ℕ, List, take}
use Rattle.std.specs.Option.{option_or}
use Rattle.cv_paint.specs.Symbols.{given_by, joined_symbol}
use Rattle.cv_paint.proofs.symbols.keep_rows.Given as goal

abbrev pub invariant-loop-row : goal.invariant-loop-row
invariant-loop-row l = (q : List ℕ) → given_by l.given q
    ≡ option_or (given_by l.fn.given q) (joined_symbol l.rule l.key l.column (take l.row-index l.rows) q)
