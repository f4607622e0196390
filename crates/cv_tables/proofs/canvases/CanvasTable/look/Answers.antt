use Rattle.std.proofs.Common.{◌∙◌, subst, refl, slice_set, IfOk}
use Rattle.cv_layer.specs.Stamps.{stamp_list}
use Rattle.cv_tables.specs.Tabs.{TabLooked}
use Rattle.cv_tables.proofs.TabLemmas.{far, near, looked_on, none_past}
use Rattle.cv_tables.proofs.canvases.CanvasTable.look.Goals as goal

pub returns-then-canvas-len-clause-ok : goal.returns-then-canvas-len-clause-ok
returns-then-canvas-len-clause-ok c =
    subst (λ was. IfOk c.look.result (TabLooked was (slice_set c.self.inside.rows.items c.args.canvas c.look.new.self) c.args.canvas
    c.args.layer (stamp_list c.args.stamps.now) c.args.view.now)) c.self.view_is
    (looked_on c.self.inside.rows.items c.args.canvas c.index_mut.result.now c.look.new.self c.args.layer
    (stamp_list c.args.stamps.now) c.args.view.now c.look.result
    (near c.self.inside.rows.items c.len.result c.args.canvas (c.len.ensures ∙ c.self.inside.rows.ok.0) c.if-canvas-len.true)
    c.index_mut.ensures.value c.look.ensures.ok)

pub returns-else-canvas-len-clause-ok : goal.returns-else-canvas-len-clause-ok
returns-else-canvas-len-clause-ok c = (
  none_past c.args.self.now c.args.canvas c.args.layer (stamp_list c.args.stamps.now) c.args.view.now
      (far c.self.inside.rows.items c.args.self.now c.len.result c.args.canvas c.self.view_is
      (c.len.ensures ∙ c.self.inside.rows.ok.0) c.if-canvas-len.false),
  refl,
)
