-- Another number at a place, and the places marked.
use Rattle.std.proofs.Common.{◌≡◌, ◌∙◌, sym, ap, length, arith, set, rules, List, ℤ, to_z, of_z, w64}
use Rattle.cv_model.specs.declared.grid.Cell.{Cell}
use Rattle.cv_model.specs.Packed.{unpacked, is_least, IsMarked}
use Rattle.cv_model.proofs.PackedLemmas.{length_unpacked, unpacked_set}
use Rattle.cv_layer.proofs.packed.CellChunks.with_cell.Goals as goal

pub set-requires-clause-within : goal.set-requires-clause-within
set-requires-clause-within c =
    let view = ap length c.self.view_is in
    let long = length_unpacked c.self.inside.words c.self.inside.lowest in
    let same = ap (λ (ws : List ℤ). length ws) c.in_ok-words.ensures in
    omega (arith, view, long, same, c.requires)

pub returns-in-Ok : goal.returns-in-Ok
returns-in-Ok c =
    let at = c.args.at in
    let ws = c.self.inside.words in
    let ps = c.self.inside.lowest in
    let qs = c.in_ok-lowest.lowest in
    let same : to_z w64 (of_z w64 c.word_of.result) ≡ c.word_of.result = search rules in
    let words = c.in-Ok.ensures.ok ∙ ap (λ (vs : List ℤ). set vs at (to_z w64 (of_z w64 c.word_of.result)))
    c.in_ok-words.ensures ∙ ap (λ (w : ℤ). set ws at w) (same ∙ c.word_of.ensures) in
    let marked : IsMarked ps qs at (is_least c.args.cell) =
    rw (sym c.is_least.ensures) c.in_ok-lowest.ensures in
    ap (λ (vs : List ℤ). unpacked vs qs) words ∙ unpacked_set ws ps qs at c.args.cell marked
    ∙ ap (λ (cells : List Cell). set cells at c.args.cell) c.self.view_is
