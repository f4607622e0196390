use Rattle.std.proofs.Common.{rules, ◌≡◌, ◌∙◌, ◌++◌, ◌∷◌, [], ◌+◌, ap, sym, subst}
use Rattle.cv_tables.specs.Rows.{IsTable}
use Rattle.cv_tables.proofs.TableLemmas.{pushed_kept, add_fits, few_rows}
use Rattle.cv_tables.proofs.jobs.JobTable.push.Goals as goal

pub overflow_add-self : goal.overflow_add-self
overflow_add-self c = record {
  fits = add_fits c.self.inside.rows.items c.self.inside.live.items c.self.inside.due c.weight-weight.result c.args.row
      c.weight-weight.ensures.weight c.weight-weight.ensures.short c.self.invariant;
}

pub invariant_of-self-2 : goal.invariant_of-self-2
invariant_of-self-2 c =
    let rows = c.self.inside.rows.items in
    let live = c.self.inside.live.items in
    let longer : c.push.new.self.items ≡ rows ++ c.args.row ∷ [] = search rules in
    let more : c.push-2.new.self.items ≡ live ++ c.len-place.result ∷ [] = search rules in
    let next = c.self.inside.due + c.weight-weight.result in
    subst (λ l. IsTable l c.push-2.new.self.items next) (sym longer)
    (subst (λ l. IsTable (rows ++ c.args.row ∷ []) l next) (sym more)
    (pushed_kept rows live c.self.inside.due next c.len-place.result c.args.row (c.len-place.ensures ∙ c.self.inside.rows.ok.0)
    (few_rows rows c.args.self.now c.self.view_is c.requires.few) c.weight-weight.ensures.short c.requires.live
    (ap (λ n. c.self.inside.due + n) c.weight-weight.ensures.weight) c.self.invariant))
