use Rattle.std.proofs.Common.{◌∙◌, ap}
use Rattle.cv_tables.specs.Rows.{Row, slots_edited}
use Rattle.cv_tables.proofs.RowLemmas.{slots_touched, touched_kept}
use Rattle.cv_tables.proofs.row.JobRow.touch_live.Goals as goal

pub invariant_of-self : goal.invariant_of-self
invariant_of-self c =
    let row : Row = record {
      canvas = c.self.inside.canvas;
      store = c.self.inside.store.value;
      view = c.self.inside.view;
      slots = c.self.inside.slots.items;
      composer = c.self.inside.composer;
      ended = c.self.inside.ended;
    } in
    touched_kept row c.self.inside.held c.args.edit.now c.touch_slots.new.slots.items
    (slots_touched row c.self.inside.held c.in-Some.held c.args.edit.now c.touch_slots.new.slots.items c.inputs.result.now
    c.in-Some.is (ap (λ (r : Row). r.ended) c.self.view_is ∙ c.requires) c.inputs.ensures c.touch_slots.ensures c.self.invariant)
    c.self.invariant

pub returns : goal.returns
returns c =
    let row : Row = record {
      canvas = c.self.inside.canvas;
      store = c.self.inside.store.value;
      view = c.self.inside.view;
      slots = c.self.inside.slots.items;
      composer = c.self.inside.composer;
      ended = c.self.inside.ended;
    } in
    ap (λ s. record row { slots = s })
    (slots_touched row c.self.inside.held c.in-Some.held c.args.edit.now c.touch_slots.new.slots.items c.inputs.result.now
    c.in-Some.is (ap (λ (r : Row). r.ended) c.self.view_is ∙ c.requires) c.inputs.ensures c.touch_slots.ensures c.self.invariant)
    ∙ ap (λ (r : Row). record r { slots = (slots_edited r.store c.args.edit.now r.slots) }) c.self.view_is
