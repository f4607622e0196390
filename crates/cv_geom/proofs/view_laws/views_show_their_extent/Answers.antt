use Rattle.cv_geom.proofs.ViewLemmas.{view_shows}
use Rattle.cv_geom.proofs.view_laws.views_show_their_extent.Goals as goal

pub returns : goal.returns
returns c = view_shows
