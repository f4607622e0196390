use Rattle.std.proofs.Common.{◌∙◌, ap}
use Rattle.cv_tables.specs.Rows.{Row, input_at}
use Rattle.cv_tables.proofs.RowLemmas.{input_seen}
use Rattle.cv_tables.proofs.row.JobRow.input.Goals as goal

pub returns-in-Some : goal.returns-in-Some
returns-in-Some c =
    let row : Row = record {
      canvas = c.self.inside.canvas;
      store = c.self.inside.store.value;
      view = c.self.inside.view;
      slots = c.self.inside.slots.items;
      composer = c.self.inside.composer;
      ended = c.self.inside.ended;
    } in
    λ none. c.input.ensures
    ∙ input_seen row c.self.inside.held c.in-Some.held c.args.at c.in-Some.is c.self.invariant.live
    (ap (λ (r : Row). r.ended) c.self.view_is ∙ none)
    ∙ ap (λ r. input_at r c.args.at) c.self.view_is
