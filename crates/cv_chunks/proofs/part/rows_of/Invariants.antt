use Rattle.std.proofs.Common.{◌≡◌, ◌++◌, length, reverse}
use Rattle.std.specs.List.{flat_map}
use Rattle.cv_chunks.proofs.part.rows_of.Given as goal

-- the items that are left, and the rows from the last made to the first, are all items
abbrev pub invariant-loop-items : goal.invariant-loop-items
invariant-loop-items g l = l.items.items ++ flat_map g.P.OfRow.content (reverse l.rows.items) ≡
    l.fn.items.items

abbrev pub decreases-loop-items : goal.decreases-loop-items
decreases-loop-items g l = length l.items.items
