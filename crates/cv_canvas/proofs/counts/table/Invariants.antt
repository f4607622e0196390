-- The colours so far, and the one behind them.
use Rattle.std.proofs.Common.{◌≡◌, ℕ, ◌<◌, length, get_or}
use Rattle.cv_model.specs.Colours.{transparent}
use Rattle.cv_canvas.specs.Counts.{laid_times}
use Rattle.cv_canvas.proofs.counts.table.Given as goal

abbrev pub invariant-loop-count : goal.invariant-loop-count
invariant-loop-count l =
    (length l.colours.items ≡ l._count) × (l.last ≡ laid_times l.colour (length l.colours.items))
    × ((n : ℕ) → n < length l.colours.items → get_or l.colours.items n transparent ≡ laid_times l.colour n)
