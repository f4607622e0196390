use Rattle.std.proofs.Common.{◌∙◌, ap, ◌-◌, ◌+◌, arith}
use Rattle.cv_event.specs.States.{change_at}
use Rattle.cv_tables.specs.Rows.{row_ended, weight}
use Rattle.cv_tables.proofs.ListLemmas.{changed}
use Rattle.cv_tables.proofs.TableLemmas.{table_ended, inside, add_fits, sub_fits, counted}
use Rattle.cv_tables.proofs.jobs.JobTable.end_at.Goals as goal

pub overflow_add-self : goal.overflow_add-self
overflow_add-self c = record {
  fits = add_fits c.self.inside.rows.items c.self.inside.live.items c.self.inside.due c.weight-after.result c.end.new.self
      c.weight-after.ensures.weight c.weight-after.ensures.short c.self.invariant;
}

pub overflow_sub-self : goal.overflow_sub-self
overflow_sub-self c =
    let rows = c.self.inside.rows.items in
    let low = sub_fits rows c.self.inside.live.items c.self.inside.due c.weight-before.result c.args.at c.index_mut-row.result.now
    (inside rows c.args.self.now c.args.at c.self.view_is c.requires) c.index_mut-row.ensures.value c.weight-before.ensures.weight
    c.self.invariant in
    omega (arith, low)

pub invariant_of-self : goal.invariant_of-self
invariant_of-self c =
    let rows = c.self.inside.rows.items in
    let x = c.index_mut-row.result.now in
    let within = inside rows c.args.self.now c.args.at c.self.view_is c.requires in
    let low = sub_fits rows c.self.inside.live.items c.self.inside.due c.weight-before.result c.args.at x
    within c.index_mut-row.ensures.value c.weight-before.ensures.weight c.self.invariant in
    table_ended c.args.how rows c.self.inside.live.items c.take_out.new.live.items c.self.inside.due
    (c.self.inside.due + c.weight-after.result - c.weight-before.result) c.args.at x c.end.new.self within c.index_mut-row.ensures.value
    c.end.ensures
    (counted c.self.inside.due c.weight-before.result c.weight-after.result (weight x) (weight c.end.new.self) low
    c.weight-before.ensures.weight c.weight-after.ensures.weight) c.take_out.ensures c.self.invariant

pub returns : goal.returns
returns c =
    changed (row_ended c.args.how) c.self.inside.rows.items c.args.at c.index_mut-row.result.now c.end.new.self
    c.index_mut-row.ensures.value c.end.ensures ∙ ap (change_at c.args.at (row_ended c.args.how)) c.self.view_is
