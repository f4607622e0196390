use Rattle.std.proofs.Common.{arith, drop}
use Rattle.std.proofs.lemmas.List.{length-drop}
use Rattle.cv_tables.proofs.TableLemmas.{missed_bound}
use Rattle.cv_tables.proofs.slots.missed.Goals as goal

pub overflow_add-count : goal.overflow_add-count
overflow_add-count c =
    let most = missed_bound (drop c.loop-at.at c.args.slots.now) in
    let size = length-drop c.loop-at.at c.args.slots.now in
    let is = c.loop-at.invariant.1 in
    record { fits = omega (arith, most, size, is, c.requires, c.missed_weight-count.ensures.small) }

pub returns-clause-small : goal.returns-clause-small
returns-clause-small c =
    let most = missed_bound (drop c.loop-at.at c.args.slots.now) in
    let size = length-drop c.loop-at.at c.args.slots.now in
    let is = c.loop-at.invariant.1 in omega (arith, most, size, is, c.requires)
