-- A number that isn't the least, and no data.
use Rattle.std.proofs.Common.{◌∙◌, sym, ap, ◌++◌, ◌∷◌, [], List, to_z, of_z, w64, rules, ◌≡◌}
use Rattle.cv_model.specs.declared.grid.Cell.{Cell}
use Rattle.cv_model.specs.Packed.{unpacked}
use Rattle.cv_model.proofs.PackedLemmas.{unpacked_value, unpacked_void}
use Rattle.cv_model.proofs.cells.CellList.put.Goals as goal

pub returns-in_ok-push-in-Value-clause-ok : goal.returns-in_ok-push-in-Value-clause-ok
returns-in_ok-push-in-Value-clause-ok c =
    let ws = c.self.inside.words.items in
    let ps = c.self.inside.lowest.items in
    let same : to_z w64 (of_z w64 c.in-Value.number) ≡ c.in-Value.number = search rules in
    rw (c.in_ok-push-in-Value.ensures.items, same) (
    unpacked_value ws ps c.in-Value.number (λ e. c.if-number.false (ap (of_z w64) e))
    ∙ ap (λ (cell : Cell). unpacked ws ps ++ cell ∷ []) (sym c.in-Value.is)
    ∙ ap (λ (cs : List Cell). cs ++ c.args.cell ∷ []) c.self.view_is)

pub returns-in_ok-push-in-Void-clause-ok : goal.returns-in_ok-push-in-Void-clause-ok
returns-in_ok-push-in-Void-clause-ok c =
    let ws = c.self-in-Void.inside.words.items in
    let ps = c.self-in-Void.inside.lowest.items in
    rw c.in_ok-push-in-Void.ensures.items (
    unpacked_void ws ps c.self-in-Void.invariant
    ∙ ap (λ (cell : Cell). unpacked ws ps ++ cell ∷ []) (sym c.in-Void.is)
    ∙ ap (λ (cs : List Cell). cs ++ c.args.cell ∷ []) c.self-in-Void.view_is)
