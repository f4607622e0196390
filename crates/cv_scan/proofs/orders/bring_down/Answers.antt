use Rattle.std.proofs.Common.{rules}
use Rattle.std.proofs.lemmas.List.Sorted.{answers_always}
use Rattle.cv_scan.proofs.MarkLemmas.{place_of}
use Rattle.cv_scan.proofs.OrderLemmas.{reversed-moved, reversed-in-turn}
use Rattle.cv_scan.proofs.orders.bring_down.Goals as goal

pub returns-clause-moved : goal.returns-clause-moved
returns-clause-moved c =
    reversed-moved c.args.marks.now.items c.sort_unstable_by_key.new.self.items c.reverse.new.self.items
    c.sort_unstable_by_key.ensures.permutation c.reverse.ensures.items

pub returns-clause-order : goal.returns-clause-order
returns-clause-order c =
    let sorted = c.sort_unstable_by_key.ensures.sorted place_of (answers_always _ _ _ (λ f a r g h. search rules)) in
    reversed-in-turn c.sort_unstable_by_key.new.self.items c.reverse.new.self.items sorted c.reverse.ensures.items
