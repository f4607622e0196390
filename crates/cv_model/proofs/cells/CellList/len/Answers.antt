-- There are as many cells as numbers.
use Rattle.std.proofs.Common.{◌∙◌, sym, ap, length}
use Rattle.cv_model.proofs.PackedLemmas.{length_unpacked}
use Rattle.cv_model.proofs.cells.CellList.len.Goals as goal

pub returns : goal.returns
returns c =
    c.len.ensures ∙ c.self.inside.words.ok.0
    ∙ sym (length_unpacked c.self.inside.words.items c.self.inside.lowest.items) ∙ ap length c.self.view_is
