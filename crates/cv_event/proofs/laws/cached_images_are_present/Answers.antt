use Rattle.cv_event.proofs.PaintedLemmas.{cached_images_are_present}
use Rattle.cv_event.proofs.laws.cached_images_are_present.Goals as goal

pub returns : goal.returns
returns c = cached_images_are_present
