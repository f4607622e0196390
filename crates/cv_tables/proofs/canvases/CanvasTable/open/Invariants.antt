use Rattle.std.proofs.Common.{◌≡◌, map, take}
use Rattle.cv_tables.specs.Tabs.{new_tab}
use Rattle.cv_tables.proofs.canvases.CanvasTable.open.Given as goal

abbrev pub invariant-loop-spec : goal.invariant-loop-spec
invariant-loop-spec l = l.rows.items ≡ map new_tab (take l.spec-index l.specs)
