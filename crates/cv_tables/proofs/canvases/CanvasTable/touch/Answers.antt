use Rattle.cv_tables.specs.Tabs.{tab_edited}
use Rattle.cv_tables.proofs.ListLemmas.{rewritten}
use Rattle.cv_tables.proofs.canvases.CanvasTable.touch.Goals as goal

pub loop-row-preserved : goal.loop-row-preserved
loop-row-preserved c =
    rewritten (tab_edited c.args.edit.now) c.deref_mut-row-items.result.now c.loop-row.row-items c.loop-row.row-index
    c.touch.new.self c.row-item.result c.loop-row-test.true c.loop-row.invariant c.touch.ensures
