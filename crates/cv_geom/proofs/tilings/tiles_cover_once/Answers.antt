use Rattle.cv_model.specs.Polygons.{is_inside}
use Rattle.cv_geom.proofs.TilingLemmas.{is_inside-united, counted_once}
use Rattle.cv_geom.proofs.tilings.tiles_cover_once.Goals as goal

pub returns : goal.returns
returns g = λ a b c p united apart.
    rw (is_inside-united a b c p united) (counted_once (is_inside p a) (is_inside p b) apart)
