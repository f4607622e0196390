use Rattle.std.proofs.Common.{sym, refl, ◌∙◌}
use Rattle.cv_event.specs.States.{slot_stands}
use Rattle.cv_tables.proofs.ListLemmas.{changed, unchanged}
use Rattle.cv_tables.proofs.TabLemmas.{far}
use Rattle.cv_tables.proofs.slots.stand.Goals as goal

pub returns-then-at-len : goal.returns-then-at-len
returns-then-at-len c =
    changed (slot_stands c.args.standing) c.args.slots.now.items c.args.at c.index_mut.result.now
    (slot_stands c.args.standing c.index_mut.result.now) c.index_mut.ensures.value refl

pub returns-else-at-len : goal.returns-else-at-len
returns-else-at-len c =
    sym (unchanged (slot_stands c.args.standing) c.args.slots.now.items c.args.at
    (far c.args.slots.now.items c.args.slots.now.items c.len.result c.args.at refl (c.len.ensures ∙ c.args.slots.now.ok.0) c.if-at-len.false))
