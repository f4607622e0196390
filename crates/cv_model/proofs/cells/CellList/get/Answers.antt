-- The cell of the number at the place, if there is one.
use Rattle.std.proofs.Common.{◌∙◌, sym, ap, refl, Some, List, ℤ, ℕ, length}
use Rattle.std.specs.Prelude.{slice_get, option_map}
use Rattle.std.proofs.lemmas.Option.{slice_get_past, slice_get_read}
use Rattle.cv_model.specs.declared.grid.Cell.{Cell}
use Rattle.cv_model.specs.Packed.{cell_of_word, is_among}
use Rattle.cv_model.proofs.PackedLemmas.{get_unpacked}
use Rattle.cv_model.proofs.cells.CellList.get.Goals as goal

pub returns-in_err-word : goal.returns-in_err-word
returns-in_err-word c =
    let ws = c.self.inside.words.items in
    let ps = c.self.inside.lowest.items in
    let words = c.deref.result.now in
    let at = c.args.at in
    let past = c.in_err-word.ensures.lookup.3 in
    let none = ap (λ (l : List ℤ). slice_get l at) (sym c.deref.ensures.value) ∙ slice_get_past words at past in
    c.from_residual.ensures
    ∙ ap (option_map (cell_of_word (is_among ps at))) (sym none) ∙ sym (get_unpacked ws ps at)
    ∙ ap (λ (cells : List Cell). slice_get cells at) c.self.view_is

pub returns : goal.returns
returns c =
    let ws = c.self.inside.words.items in
    let ps = c.self.inside.lowest.items in
    let words = c.deref.result.now in
    let at = c.args.at in
    let word = c.in_ok-word.word.now in
    let there = c.in_ok-word.ensures.lookup in
    let found = ap (λ (l : List ℤ). slice_get l at) (sym c.deref.ensures.value)
    ∙ slice_get_read words (length words) at word refl there.3.0 there.1 in
    ap (λ (cell : Cell). Some cell) (c.cell_at.ensures
    ∙ ap (λ (places : List ℕ). cell_of_word (is_among places at) word) c.as_slice.ensures.value)
    ∙ ap (option_map (cell_of_word (is_among ps at))) (sym found) ∙ sym (get_unpacked ws ps at)
    ∙ ap (λ (cells : List Cell). slice_get cells at) c.self.view_is
