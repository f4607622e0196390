use Rattle.std.proofs.Common.{◌∙◌, ap}
use Rattle.cv_tables.specs.Rows.{slot_named}
use Rattle.cv_tables.proofs.TabLemmas.{near}
use Rattle.cv_tables.proofs.RowLemmas.{named_step}
use Rattle.cv_tables.proofs.row.touch_slots.Goals as goal

pub loop-at-preserved : goal.loop-at-preserved
loop-at-preserved c =
    let now = c.loop-at.slots.items in
    let here = near now c.len.result c.loop-at.at (c.len.ensures ∙ c.loop-at.slots.ok.0) c.loop-at-test.true in
    named_step c.args.edit.now now c.args.slots.now.items c.args.inputs.now c.loop-at.at c.index.result.now c.touched_slot.result
    c.index-inputs-at.result here c.index-inputs-at.is
    (c.touched_slot.ensures ∙ ap (λ s. slot_named c.args.edit.now s c.value.result.now) c.index.ensures
    ∙ ap (slot_named c.args.edit.now _) c.value.ensures) c.loop-at.invariant
