use Rattle.std.proofs.Common.{◌∙◌, ap, ◌-◌, ◌+◌, arith, refl}
use Rattle.cv_event.specs.States.{change_at, slot_stands}
use Rattle.cv_tables.specs.Rows.{row_stands, weight}
use Rattle.cv_tables.proofs.ListLemmas.{changed, length_change}
use Rattle.cv_tables.proofs.TableLemmas.{table_changed, inside, add_fits, sub_fits, counted}
use Rattle.cv_tables.proofs.jobs.JobTable.stand_at.Goals as goal

pub overflow_add-self : goal.overflow_add-self
overflow_add-self c = record {
  fits = add_fits c.self.inside.rows.items c.self.inside.live.items c.self.inside.due c.weight-after.result c.stand.new.self
      c.weight-after.ensures.weight c.weight-after.ensures.short c.self.invariant;
}

pub overflow_sub-self : goal.overflow_sub-self
overflow_sub-self c =
    let rows = c.self.inside.rows.items in
    let low = sub_fits rows c.self.inside.live.items c.self.inside.due c.weight-before.result c.args.at c.index_mut-row.result.now
    (inside rows c.args.self.now c.args.at c.self.view_is c.requires.within) c.index_mut-row.ensures.value
    c.weight-before.ensures.weight c.self.invariant in
    omega (arith, low)

pub invariant_of-self : goal.invariant_of-self
invariant_of-self c =
    let rows = c.self.inside.rows.items in
    let x = c.index_mut-row.result.now in
    let within = inside rows c.args.self.now c.args.at c.self.view_is c.requires.within in
    let low = sub_fits rows c.self.inside.live.items c.self.inside.due c.weight-before.result c.args.at x
    within c.index_mut-row.ensures.value c.weight-before.ensures.weight c.self.invariant in
    table_changed (row_stands c.args.slot c.args.standing) rows c.self.inside.live.items c.self.inside.due
    (c.self.inside.due + c.weight-after.result - c.weight-before.result) c.args.at x c.stand.new.self (λ row. refl)
    (λ row. length_change (slot_stands c.args.standing) row.slots c.args.slot) within c.index_mut-row.ensures.value
    c.stand.ensures
    (counted c.self.inside.due c.weight-before.result c.weight-after.result (weight x) (weight c.stand.new.self) low
    c.weight-before.ensures.weight c.weight-after.ensures.weight) c.self.invariant

pub returns : goal.returns
returns c =
    changed (row_stands c.args.slot c.args.standing) c.self.inside.rows.items c.args.at c.index_mut-row.result.now c.stand.new.self
    c.index_mut-row.ensures.value c.stand.ensures ∙ ap (change_at c.args.at (row_stands c.args.slot c.args.standing)) c.self.view_is
