use Rattle.std.proofs.Common.{◌∙◌, ap, sym, refl, ◌+◌}
use Rattle.cv_event.specs.States.{change_at}
use Rattle.cv_tables.specs.Rows.{row_composed, weight}
use Rattle.cv_tables.proofs.ListLemmas.{changed}
use Rattle.cv_tables.proofs.TableLemmas.{table_changed, inside}
use Rattle.cv_tables.proofs.jobs.JobTable.compose_at.Goals as goal

pub invariant_of-self : goal.invariant_of-self
invariant_of-self c =
    let rows = c.self.inside.rows.items in
    let x = c.index_mut.result.now in
    table_changed (row_composed c.args.who) rows c.self.inside.live.items c.self.inside.due c.self.inside.due c.args.at x
    c.compose.new.self (λ row. refl) (λ row. refl) (inside rows c.args.self.now c.args.at c.self.view_is c.requires)
    c.index_mut.ensures.value c.compose.ensures (ap (λ r. c.self.inside.due + weight r) (sym c.compose.ensures)) c.self.invariant

pub returns : goal.returns
returns c =
    changed (row_composed c.args.who) c.self.inside.rows.items c.args.at c.index_mut.result.now c.compose.new.self
    c.index_mut.ensures.value c.compose.ensures ∙ ap (change_at c.args.at (row_composed c.args.who)) c.self.view_is
