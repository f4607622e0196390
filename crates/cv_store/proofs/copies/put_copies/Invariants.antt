use Rattle.std.proofs.Common.{◌≡◌, ◌++◌, drop}
use Rattle.cv_store.proofs.copies.put_copies.Given as goal

abbrev pub invariant-loop-item : goal.invariant-loop-item
invariant-loop-item g l = l.list ++ drop l.item-index l.items ≡ l.fn.list ++ l.fn.items
