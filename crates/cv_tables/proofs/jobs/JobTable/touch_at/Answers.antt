use Rattle.std.proofs.Common.{◌∙◌, ap, sym, ◌+◌}
use Rattle.cv_event.specs.States.{change_at}
use Rattle.cv_tables.specs.Rows.{row_edited, weight}
use Rattle.cv_tables.proofs.ListLemmas.{changed}
use Rattle.cv_tables.proofs.TableLemmas.{table_changed, inside, edited_end, edited_size, edited_weight}
use Rattle.cv_tables.proofs.jobs.JobTable.touch_at.Goals as goal

pub invariant_of-self : goal.invariant_of-self
invariant_of-self c =
    let rows = c.self.inside.rows.items in
    let e = c.args.edit.now in
    let x = c.index_mut.result.now in
    table_changed (row_edited e) rows c.self.inside.live.items c.self.inside.due c.self.inside.due c.args.at x
    c.touch.new.self (edited_end e) (edited_size e) (inside rows c.args.self.now c.args.at c.self.view_is c.requires)
    c.index_mut.ensures.value c.touch.ensures
    (ap (λ n. c.self.inside.due + n) (sym (edited_weight e x) ∙ ap weight (sym c.touch.ensures))) c.self.invariant

pub returns : goal.returns
returns c =
    changed (row_edited c.args.edit.now) c.self.inside.rows.items c.args.at c.index_mut.result.now c.touch.new.self
    c.index_mut.ensures.value c.touch.ensures ∙ ap (change_at c.args.at (row_edited c.args.edit.now)) c.self.view_is
