use Rattle.cv_geom.proofs.TilingLemmas.{is_inside-united}
use Rattle.cv_geom.proofs.tilings.shared_edges_cancel.Goals as goal

pub returns : goal.returns
returns c = is_inside-united
