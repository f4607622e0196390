-- The bytes are those of the file that was read.
use Rattle.canvas.proofs.LayerLemmas.{read_named}
use Rattle.canvas.proofs.layers.layer_name.Goals as goal

pub returns-in-Ok : goal.returns-in-Ok
returns-in-Ok g c =
    let f = c.in-Ok.ensures.found in
    read_named _ _ f.0 _ _ c.args.place _ f.1 f.2 c.as_slice.ensures.value c.name_at.ensures
