use Rattle.std.proofs.Common.{◌∙◌, sym, ◌-◌, map, subst, length, ◌≤◌}
use Rattle.cv_store.specs.Stores.{layer_of}
use Rattle.cv_tables.specs.Rows.{IsGathered}
use Rattle.cv_tables.proofs.MakingLemmas.{placed, gathered_step, gathered_past, gathered_at}
use Rattle.cv_tables.proofs.making.gather.Goals as goal

pub input_of-requires : goal.input_of-requires
input_of-requires c =
    placed (map layer_of c.args.store.now.layers) (c.loop-at.at - 1) c.in-Some.frame (sym c.place.ensures ∙ c.in-Some.is)

pub loop-at-preserved-in_ok-put : goal.loop-at-preserved-in_ok-put
loop-at-preserved-in_ok-put c =
    subst (λ g. (c.loop-at.at - 1 ≤ length c.args.store.now.layers) × IsGathered c.args.store.now
    (gathered_at c.args.store.now c.args.view (c.loop-at.at - 1)) g) (sym c.in_ok-put.ensures)
    (gathered_step c.args.store.now c.args.view c.loop-at.at c.loop-at.made c.in-Some.frame c.in_ok-input_of.field-0
    c.loop-at-test.true c.loop-at.invariant.0 (sym c.place.ensures ∙ c.in-Some.is) (sym c.is_slot.ensures ∙ c.if-is_slot.true)
    c.in_ok-input_of.ensures c.loop-at.invariant.1)

pub loop-at-preserved : goal.loop-at-preserved
loop-at-preserved c =
    gathered_past c.args.store.now c.args.view c.loop-at.at c.loop-at.made c.in-Some.frame
    c.loop-at-test.true c.loop-at.invariant.0 (sym c.place.ensures ∙ c.in-Some.is) (sym c.is_slot.ensures ∙ c.if-is_slot.false)
    c.loop-at.invariant.1
