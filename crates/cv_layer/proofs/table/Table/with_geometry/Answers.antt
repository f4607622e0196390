use Rattle.std.proofs.Common.{ap, sym, length}
use Rattle.std.proofs.lemmas.Option.{slice_get_within}
use Rattle.cv_model.specs.declared.feature.Feature.{Feature}
use Rattle.cv_layer.proofs.TableLemmas.{same_found, changed}
use Rattle.cv_layer.proofs.table.Table.with_geometry.Goals as goal

pub with_row-requires-clause-place : goal.with_row-requires-clause-place
with_row-requires-clause-place c =
    rw (← c.self.view_is) (slice_get_within c.self.inside.rows c.args.at c.in-Some.row.now (sym
    c.in-Some.ensures))

pub with_row-requires-clause-alike : goal.with_row-requires-clause-alike
with_row-requires-clause-alike c =
    rw (← c.self.view_is, c.in_ok-with_geometry.ensures)
    (λ old at. let e = same_found c.self.inside.rows c.args.at c.in-Some.row.now old (sym c.in-Some.ensures) at in
    (ap (λ (f : Feature). f.id) e, ap (λ (f : Feature). length f.values) e))

pub returns : goal.returns
returns c =
    let place = rw (← c.self.view_is) at c.requires in
    let e = changed c.args.id (λ f. record f { geometry = c.args.geometry })
    (record { columns = c.self.inside.columns; features = c.self.inside.rows }) c.self.inside.stretches.items
    c.self.inside.vertices c.self.inside.values c.args.at c.in-Some.row.now c.in_ok-with_geometry.field-0
    c.self.invariant place (sym c.in-Some.ensures) c.in_ok-with_geometry.ensures in
    rw (← c.self.view_is, e) (rw (← c.self.view_is) at c.with_row.ensures)
