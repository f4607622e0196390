use Rattle.std.proofs.Common.{◌∙◌, ap, sym}
use Rattle.cv_event.specs.States.{change_at}
use Rattle.cv_tables.specs.Tabs.{tab_publishes}
use Rattle.cv_tables.proofs.ListLemmas.{changed, unchanged}
use Rattle.cv_tables.proofs.TabLemmas.{far}
use Rattle.cv_tables.proofs.canvases.CanvasTable.publish.Goals as goal

pub returns-then-canvas-len : goal.returns-then-canvas-len
returns-then-canvas-len c =
    changed (tab_publishes c.args.job c.args.row.now) c.self.inside.rows.items c.args.canvas c.index_mut.result.now c.publish.new.self
    c.index_mut.ensures.value c.publish.ensures ∙ ap (change_at c.args.canvas (tab_publishes c.args.job c.args.row.now)) c.self.view_is

pub returns-else-canvas-len : goal.returns-else-canvas-len
returns-else-canvas-len c =
    sym (unchanged (tab_publishes c.args.job c.args.row.now) c.args.self.now c.args.canvas
    (far c.self.inside.rows.items c.args.self.now c.len.result c.args.canvas c.self.view_is
    (c.len.ensures ∙ c.self.inside.rows.ok.0) c.if-canvas-len.false))
