-- The least number, and its place.
use Rattle.std.proofs.Common.{◌∙◌, ap, ◌++◌, ◌∷◌, [], List, ℕ}
use Rattle.cv_model.specs.declared.grid.Cell.{Cell}
use Rattle.cv_model.specs.declared.grid.Cell.TheVariants.{Value}
use Rattle.cv_model.specs.Packed.{unpacked, least}
use Rattle.cv_model.proofs.PackedLemmas.{unpacked_least}
use Rattle.cv_model.proofs.cells.CellList.put_least.Goals as goal

pub returns-in-Ok-clause-ok : goal.returns-in-Ok-clause-ok
returns-in-Ok-clause-ok c =
    let ws = c.self.inside.words.items in
    let ps = c.self.inside.lowest.items in
    let at = c.len.ensures ∙ c.self.inside.words.ok.0 in
    rw (c.in-Ok.ensures.items, c.in_ok-push.ensures.items) (
    ap (λ (k : ℕ). unpacked (ws ++ least ∷ []) (ps ++ k ∷ [])) at
    ∙ unpacked_least ws ps
    ∙ ap (λ (cs : List Cell). cs ++ Value least ∷ []) c.self.view_is)
