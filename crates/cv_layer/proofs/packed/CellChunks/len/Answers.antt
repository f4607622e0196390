-- There are as many cells as numbers.
use Rattle.std.proofs.Common.{◌∙◌, sym, ap, length}
use Rattle.cv_model.proofs.PackedLemmas.{length_unpacked}
use Rattle.cv_layer.proofs.packed.CellChunks.len.Goals as goal

pub returns : goal.returns
returns c =
    c.len.ensures ∙ sym (length_unpacked c.self.inside.words c.self.inside.lowest) ∙ ap length c.self.view_is
