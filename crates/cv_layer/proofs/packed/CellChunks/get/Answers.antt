-- The cell of the number at the place, if there is one.
use Rattle.std.proofs.Common.{◌∙◌, sym, ap, Some, List}
use Rattle.std.specs.Prelude.{slice_get, option_map}
use Rattle.cv_model.specs.declared.grid.Cell.{Cell}
use Rattle.cv_model.specs.Packed.{cell_of_word, is_among}
use Rattle.cv_model.proofs.PackedLemmas.{get_unpacked}
use Rattle.cv_layer.proofs.packed.CellChunks.get.Goals as goal

pub returns-in_err-word : goal.returns-in_err-word
returns-in_err-word c =
    let ws = c.self.inside.words in
    let ps = c.self.inside.lowest in
    let at = c.args.at in
    c.from_residual.ensures
    ∙ ap (option_map (cell_of_word (is_among ps at))) c.in_err-word.ensures ∙ sym (get_unpacked ws ps at)
    ∙ ap (λ (cells : List Cell). slice_get cells at) c.self.view_is

pub returns : goal.returns
returns c =
    let ws = c.self.inside.words in
    let ps = c.self.inside.lowest in
    let at = c.args.at in
    ap (λ (cell : Cell). Some cell) c.cell_at.ensures
    ∙ ap (option_map (cell_of_word (is_among ps at))) c.in_ok-word.ensures ∙ sym (get_unpacked ws ps at)
    ∙ ap (λ (cells : List Cell). slice_get cells at) c.self.view_is
