use Rattle.std.proofs.Common.{refl}
use Rattle.cv_model.specs.Pictures.{colour_of}
use Rattle.cv_model.proofs.laws.empty_picture_is_background.Goals as goal

pub returns : goal.returns
unfolding colour_of
returns c = λ project view i j. refl
