use Rattle.std.proofs.Common.{arith}
use Rattle.cv_tables.proofs.TableLemmas.{bits_small}
use Rattle.cv_tables.proofs.slots.ready_bits.Goals as goal

pub overflow_mul-bits : goal.overflow_mul-bits
overflow_mul-bits c =
    let small = bits_small c.args.slots.now c.loop-at.at c.loop-at.bits c.requires c.loop-at.invariant.1 in
    record { fits = omega (arith, small) }

pub overflow_add-bits : goal.overflow_add-bits
overflow_add-bits c =
    let small = bits_small c.args.slots.now c.loop-at.at c.loop-at.bits c.requires c.loop-at.invariant.1 in
    record { fits = omega (arith, small, c.ready_weight-more.ensures.small) }

pub overflow_cast-result : goal.overflow_cast-result
overflow_cast-result c =
    let small = bits_small c.args.slots.now c.loop-at.at c.loop-at.bits c.requires c.loop-at.invariant.1 in
    record { fits = omega (arith, small) }
