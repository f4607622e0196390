use Rattle.std.proofs.Common.{◌∙◌, ap}
use Rattle.std.specs.Prelude.{position}
use Rattle.cv_store.specs.Stores.{id_of}
use Rattle.cv_store.proofs.Lists.{has}
use Rattle.cv_store.proofs.MapLemmas.{position_alike}
use Rattle.cv_store.proofs.layers.LayerMap.find.Goals as goal

pub returns : goal.returns
returns c =
    c.get_index_of.ensures.index ∙ position_alike c.args.id c.self.inside.rows.entries c.self.invariant.keyed
    ∙ ap (position (has id_of c.args.id)) c.self.view_is
