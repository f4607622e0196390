use Rattle.cv_model.proofs.LawLemmas.{absent_masks_show_all}
use Rattle.cv_model.proofs.laws.absent_masks_show_all.Goals as goal

pub returns : goal.returns
returns c = absent_masks_show_all
