use Rattle.std.proofs.Common.{ap, ◌∙◌}
use Rattle.cv_model.specs.Views.{PixelGrid}
use Rattle.cv_paint.proofs.PaintedLemmas.{cover_text, cover_grid}
use Rattle.cv_paint.proofs.painted.cover_of.Goals as goal

pub returns-in_ok-cover_table-in-Text-clause-ok : goal.returns-in_ok-cover_table-in-Text-clause-ok
returns-in_ok-cover_table-in-Text-clause-ok g c =
    rw c.in-Text.is
    (cover_text c.args.view.now c.in-Text.table.columns c.in-Text.table.features c.in_ok-cover.cover c.cover_table.new.cover
    (record {
      width = c.in_ok-cover.ensures.width ∙ ap (λ (v : PixelGrid). v.w) c.view.view_is;
      height = c.in_ok-cover.ensures.height ∙ ap (λ (v : PixelGrid). v.h) c.view.view_is;
    })
    c.in_ok-cover_table-in-Text.ensures.width c.in_ok-cover_table-in-Text.ensures.height c.in_ok-cover.ensures.clear
    c.in_ok-cover_table-in-Text.ensures.covered)

pub returns-in-Grid-clause-ok : goal.returns-in-Grid-clause-ok
returns-in-Grid-clause-ok g c =
    rw c.in-Grid.is
    (cover_grid c.args.view.now c.in-Grid.field-0 c.in_ok-cover.cover
    (record {
      width = c.in_ok-cover.ensures.width ∙ ap (λ (v : PixelGrid). v.w) c.view.view_is;
      height = c.in_ok-cover.ensures.height ∙ ap (λ (v : PixelGrid). v.h) c.view.view_is;
    })
    c.in_ok-cover.ensures.clear)
