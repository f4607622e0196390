use Rattle.std.proofs.Common.{◌∙◌, ◌++◌, ◌∷◌, [], ap, length}
use Rattle.cv_tables.specs.Rows.{cancelled_before, new_row}
use Rattle.cv_tables.proofs.TableLemmas.{cancel_all}
use Rattle.cv_tables.proofs.jobs.JobTable.start.Goals as goal

pub returns-clause-ok : goal.returns-clause-ok
returns-clause-ok c =
    let made = new_row c.args.canvas c.args.store.now c.args.view in
    c.cancel_before.ensures
    ∙ ap (cancelled_before c.args.canvas c.len-place.result)
    (c.in_ok-push.ensures.ok ∙ ap (λ r. c.args.self.now ++ r ∷ []) c.in_ok-started.ensures)
    ∙ ap (λ n. cancelled_before c.args.canvas n (c.args.self.now ++ made ∷ []))
    (c.len-place.ensures ∙ c.self.inside.rows.ok.0 ∙ ap length c.self.view_is)
    ∙ cancel_all c.args.canvas c.args.self.now made
