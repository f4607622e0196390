use Rattle.std.proofs.Common.{◌≡◌, arith, sym}
use Rattle.cv_model.specs.Edits.{feature_vertices}
use Rattle.cv_layer.proofs.TableLemmas.{part_of_total, table_set}
use Rattle.cv_layer.proofs.table.Table.with_row.Goals as goal

pub overflow_sub-branch : goal.overflow_sub-branch
overflow_sub-branch c =
    omega (
      arith,
      c.self.invariant.vertices_are,
      c.in_ok-vertices.ensures,
      part_of_total feature_vertices c.self.inside.rows c.args.at c.in-Some.old.now (sym c.in-Some.ensures),
    )

pub with_rows-requires : goal.with_rows-requires
with_rows-requires c =
    let found = sym c.in-Some.ensures in
    let alike = rw (← c.self.view_is) at c.requires.alike in
    let within = part_of_total feature_vertices c.self.inside.rows c.args.at c.in-Some.old.now found in
    let kept : c.in_ok-stretches.stretches ≡ c.self.inside.stretches = c.in_ok-stretches.ensures.cases in
    rw (← c.self.view_is, c.in-Ok.ensures.ok, c.in_ok-rows.ensures, kept)
    (table_set (record { columns = c.self.inside.columns; features = c.self.inside.rows })
    c.self.inside.stretches.items c.self.inside.vertices c.self.inside.values c.args.at c.in_ok-vertices-3.vertices
    c.in-Some.old.now c.args.row c.self.invariant found (alike c.in-Some.old.now found)
    (omega (
      arith,
      c.in_ok-vertices-3.ensures,
      c.in_ok-vertices.ensures,
      c.in_ok-vertices-2.ensures,
      c.self.invariant.vertices_are,
      within,
    )))
