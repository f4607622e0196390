use Rattle.std.proofs.Common.{◌≡◌, ◌∙◌, ap, sym, subst}
use Rattle.cv_model.specs.Paintings.{Composition}
use Rattle.cv_compose.specs.Inputs.{IsComposition}
use Rattle.cv_tables.specs.Rows.{Row}
use Rattle.cv_tables.proofs.RowLemmas.{composes, composition_kept}
use Rattle.cv_tables.proofs.row.JobRow.composing.Goals as goal

pub of-requires : goal.of-requires
of-requires c =
    let row : Row = record {
      canvas = c.self.inside.canvas;
      store = c.self.inside.store.value;
      view = c.self.inside.view;
      slots = c.self.inside.slots.items;
      composer = c.self.inside.composer;
      ended = c.self.inside.ended;
    } in
    let held : Composition = record { frame = c.in-Some.held.frame; paintings = c.in-Some.held.images } in
    let made : Composition = record { frame = c.in_ok-frame.frame; paintings = c.in_ok-images.images } in
    let same : made ≡ held = λ i. record { frame = c.in_ok-frame.ensures i; paintings = c.in_ok-images.ensures i } in
    subst IsComposition
    (sym (same ∙ composes row c.self.inside.held c.in-Some.held c.in-Some.is
    (ap (λ (r : Row). r.ended) c.self.view_is ∙ c.requires) c.self.invariant))
    (composition_kept row c.self.inside.held c.self.invariant)
