use Rattle.cv_event.proofs.TakenLemmas.{image_is_of_the_taken}
use Rattle.cv_event.proofs.laws.image_is_of_the_taken.Goals as goal

pub returns : goal.returns
returns c = image_is_of_the_taken
