use Rattle.std.proofs.Common.{◌∙◌, sym, subst, Some, None}
use Rattle.cv_model.specs.Layers.{slots}
use Rattle.cv_store.specs.Stores.{project_of}
use Rattle.cv_tables.specs.Rows.{GatheredParts, IsGathered, IsRow}
use Rattle.cv_tables.proofs.MakingLemmas.{made_row}
use Rattle.cv_tables.proofs.making.started.Goals as goal

pub of-requires-2 : goal.of-requires-2
of-requires-2 c =
    let g : GatheredParts = record {
      slots = c.slots.inside.slots.items;
      frames = c.slots.inside.frames;
      inputs = c.slots.inside.inputs.items;
      images = c.slots.inside.images.items;
    } in
    let kept = subst (IsGathered c.args.store.now (slots (project_of c.args.store.now) c.args.view)) (sym c.slots.view_is)
    c.in_ok-slots.ensures in
    subst (λ h. IsRow (record {
      canvas = c.args.canvas;
      store = c.args.store.now;
      view = c.args.view;
      slots = g.slots;
      composer = None;
      ended = None;
    }) (Some h)) (sym c.of.ensures)
    (made_row c.args.canvas c.args.store.now c.args.view g c.of-frame.result c.len.ensures.kept kept
    (c.of-frame.ensures ∙ (λ i. record {
      width = c.width.ensures i;
      height = c.height.ensures i;
      background = c.background.ensures i;
      slots = g.frames;
    })))
