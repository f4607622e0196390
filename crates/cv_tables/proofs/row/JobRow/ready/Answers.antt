use Rattle.cv_tables.specs.Rows.{Row}
use Rattle.cv_tables.proofs.RowLemmas.{readied_from}
use Rattle.cv_tables.proofs.row.JobRow.ready.Goals as goal

pub invariant_of-self : goal.invariant_of-self
invariant_of-self c =
    let row : Row = record {
      canvas = c.self.inside.canvas;
      store = c.self.inside.store.value;
      view = c.self.inside.view;
      slots = c.self.inside.slots.items;
      composer = c.self.inside.composer;
      ended = c.self.inside.ended;
    } in
    readied_from row c.args.self.now c.self.inside.held c.in-Some.held c.set_image.new.self c.args.at c.args.painted
    c.stand.new.slots.items c.self.view_is c.requires.live c.requires.painted c.in-Some.is c.set_image.ensures c.stand.ensures
    c.self.invariant
