use Rattle.cv_layer.proofs.TableLemmas.{table_insert}
use Rattle.cv_layer.proofs.table.Table.with_feature.Goals as goal

pub with_rows-requires : goal.with_rows-requires
with_rows-requires c =
    let fresh = rw (← c.self.view_is, ← c.in_ok-row.ensures) at c.requires.fresh in
    let even = rw (← c.self.view_is, ← c.in_ok-row.ensures) at c.requires.even in
    rw (
      ← c.self.view_is,
      c.in-Ok.ensures.ok,
      c.in_ok-rows.ensures,
      c.in_ok-vertices-2.ensures,
      c.in_ok-vertices.ensures,
      c.in_ok-values.ensures,
      c.values.ensures,
    )
    (table_insert (record { columns = c.self.inside.columns; features = c.self.inside.rows })
    c.in_ok-stretches.stretches.items c.self.inside.stretches.items c.self.inside.vertices c.self.inside.values
    c.args.at c.in_ok-row.row c.self.invariant fresh even (rw (← c.self.view_is) at c.requires.place)
    (rw (c.in_ok-stretches.ensures) (rw (← c.self.view_is, c.id.ensures) at c.in_ok-stretches_with.ensures)))
