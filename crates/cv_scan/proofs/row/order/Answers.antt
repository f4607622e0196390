use Rattle.std.proofs.lemmas.List.Sorted.{IsNonDecreasingBy-from_sort}
use Rattle.std.proofs.Common.{ℕ}
use Rattle.cv_scan.proofs.RunLemmas.{AreOrdered, ordered}
use Rattle.cv_scan.proofs.row.order.Goals as goal

made : (c : goal.After-sort_unstable) → AreOrdered c.args.columns.from c.args.columns.end c.args.reaches.now.items c.sort_unstable.new.self.items
made c =
    let moved = rw c.in_ok-pad.ensures at c.sort_unstable.ensures.permutation in
    let sorted = IsNonDecreasingBy-from_sort (λ (k : ℕ). k) c.sort_unstable.new.self.items c.sort_unstable.ensures.sorted in
    ordered c.args.columns.from c.args.columns.end c.args.reaches.now.items c.sort_unstable.new.self.items c.requires.order
    c.requires.within moved sorted

pub returns-clause-rises : goal.returns-clause-rises
returns-clause-rises c = (made c).rises

pub returns-clause-paired : goal.returns-clause-paired
returns-clause-paired c = (made c).paired

pub returns-clause-same : goal.returns-clause-same
returns-clause-same c = (made c).same
