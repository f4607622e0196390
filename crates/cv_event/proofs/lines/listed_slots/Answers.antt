use Rattle.std.proofs.Common.{◌∙◌, ap, ◌++◌, ◌-◌, ◌+◌, ◌/◌, tests, rules}
use Rattle.cv_event.specs.Lines.{set_bits}
use Rattle.cv_event.proofs.LineLemmas.{set_bits_more}
use Rattle.cv_event.proofs.lines.listed_slots.Goals as goal

pub loop-slot-preserved : goal.loop-slot-preserved
loop-slot-preserved c =
    let k = c.loop-slot.slot in
    ap (λ xs. xs ++ set_bits (32 - (k + 1)) (k + 1) (c.loop-slot.rest / 2)) c.in_ok-push_where.ensures
    ∙ set_bits_more c.loop-slot.slots.items k c.loop-slot.rest (search (rules, tests))
    ∙ c.loop-slot.invariant
