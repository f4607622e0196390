use Rattle.std.proofs.Common.{◌≡◌, ◌∙◌, sym, ap, subst, Some, slice_get}
use Rattle.std.specs.Option.{option_copied}
use Rattle.cv_tables.specs.Tabs.{Tables, state_of}
use Rattle.cv_desk.specs.Desks.{History}
use Rattle.cv_desk.specs.Answers.{FitsCanvas}
use Rattle.cv_desk.proofs.SeenLemmas.{fits_there, sized}
use Rattle.cv_desk.proofs.desk.Desk.set_view.Goals as goal

pub note_view-requires-clause-fits : goal.note_view-requires-clause-fits
note_view-requires-clause-fits c =
    let tab = c.in-Some.row.now in
    let there : slice_get c.self.inside.canvases c.args.canvas ≡ Some tab = sym c.get.ensures ∙ ap option_copied c.in-Some.is in
    let size = sized c.args.view.w c.spec.result.w c.args.view.h c.spec.result.h c.is_of_size.result c.is_of_size.ensures.value
    c.if-not-is_of_size.false in
    subst (λ (t : Tables). FitsCanvas (state_of t) c.args.canvas c.args.view) (ap (λ (n : History). n.tables) c.self.view_is ∙ sym c.in-Ok.ensures.stays.tables)
    (fits_there c.self.inside.canvases c.args.canvas tab c.args.view there c.is_of_size.ensures.kept
    (size.0 ∙ ap (λ spec. spec.w) c.spec.ensures) (size.1 ∙ ap (λ spec. spec.h) c.spec.ensures))
