use Rattle.std.proofs.Common.{ap, sym, length, arith}
use Rattle.cv_model.specs.Edits.{feature_vertices}
use Rattle.cv_layer.specs.Tables.{feature_values}
use Rattle.cv_layer.proofs.TableLemmas.{part_of_total, table_remove, removed}
use Rattle.cv_layer.proofs.table.Table.without_feature.Goals as goal

pub overflow_sub-vertices : goal.overflow_sub-vertices
overflow_sub-vertices c =
    omega (
      arith,
      c.self.invariant.vertices_are,
      c.in_ok-vertices.ensures,
      part_of_total feature_vertices c.self.inside.rows c.args.at c.in-Some.row.now (sym c.in-Some.ensures),
    )

pub overflow_sub-values : goal.overflow_sub-values
overflow_sub-values c =
    omega (
      arith,
      c.self.invariant.values_are,
      ap length c.values.ensures,
      part_of_total feature_values c.self.inside.rows c.args.at c.in-Some.row.now (sym c.in-Some.ensures),
    )

pub with_rows-requires : goal.with_rows-requires
with_rows-requires c =
    let found = sym c.in-Some.ensures in
    let v = part_of_total feature_vertices c.self.inside.rows c.args.at c.in-Some.row.now found in
    let w = part_of_total feature_values c.self.inside.rows c.args.at c.in-Some.row.now found in
    rw (← c.self.view_is, c.in_ok-remove.ensures.ok, c.in_ok-rows.ensures)
    (table_remove (record { columns = c.self.inside.columns; features = c.self.inside.rows })
    c.in_ok-stretches.stretches.items c.self.inside.stretches.items c.self.inside.vertices c.self.inside.values
    c.args.at _ _ c.in-Some.row.now c.self.invariant found
    (rw (c.in_ok-stretches.ensures) (rw (← c.self.view_is) at c.in_ok-stretches_without.ensures)) (omega (arith, v, c.self.invariant.vertices_are, c.in_ok-vertices.ensures))
    (omega (arith, w, c.self.invariant.values_are, ap length c.values.ensures)))

pub returns : goal.returns
returns c =
    let place = rw (← c.self.view_is) at c.requires in
    let e = removed c.args.id (record { columns = c.self.inside.columns; features = c.self.inside.rows })
    c.self.inside.stretches.items c.self.inside.vertices c.self.inside.values c.args.at c.in-Some.row.now
    c.self.invariant place in
    rw (← c.self.view_is, e)
    (rw (← c.self.view_is, c.in_ok-remove.ensures.ok, c.in_ok-rows.ensures) at c.with_rows.ensures)
