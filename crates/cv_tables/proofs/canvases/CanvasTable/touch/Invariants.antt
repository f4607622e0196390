use Rattle.std.proofs.Common.{◌≡◌, ◌++◌, map, take, drop}
use Rattle.cv_tables.specs.Tabs.{tab_edited}
use Rattle.cv_tables.proofs.canvases.CanvasTable.touch.Given as goal

-- the canvases so far are changed, and the others are as they were
abbrev pub invariant-loop-row : goal.invariant-loop-row
invariant-loop-row l =
    l.row-items
    ≡ map (tab_edited l.edit) (take l.row-index l.initial.row-items) ++ drop l.row-index l.initial.row-items
