use Rattle.std.proofs.Common.{◌∙◌, ap, sym}
use Rattle.cv_event.specs.States.{change_at}
use Rattle.cv_tables.specs.Tabs.{tab_stored}
use Rattle.cv_tables.proofs.ListLemmas.{changed, unchanged}
use Rattle.cv_tables.proofs.TabLemmas.{far, on_ok}
use Rattle.cv_tables.proofs.canvases.CanvasTable.store.Goals as goal

pub returns-then-canvas-len-clause-ok : goal.returns-then-canvas-len-clause-ok
returns-then-canvas-len-clause-ok c =
    on_ok c.store.result _ _
    (λ is. changed (tab_stored c.args.painted) c.self.inside.rows.items c.args.canvas c.index_mut.result.now c.store.new.self
    c.index_mut.ensures.value is ∙ ap (change_at c.args.canvas (tab_stored c.args.painted)) c.self.view_is) c.store.ensures.ok

pub returns-else-canvas-len-clause-ok : goal.returns-else-canvas-len-clause-ok
returns-else-canvas-len-clause-ok c =
    sym (unchanged (tab_stored c.args.painted) c.args.self.now c.args.canvas
    (far c.self.inside.rows.items c.args.self.now c.len.result c.args.canvas c.self.view_is
    (c.len.ensures ∙ c.self.inside.rows.ok.0) c.if-canvas-len.false))
