use Rattle.cv_geom.proofs.TilingLemmas.{squares_unite}
use Rattle.cv_geom.proofs.tilings.squares_unite.Goals as goal

pub returns : goal.returns
returns c = squares_unite
