use Rattle.cv_event.proofs.CacheLemmas.{cache_of_one_canvas}
use Rattle.cv_event.proofs.laws.cache_of_one_canvas.Goals as goal

pub returns : goal.returns
returns c = cache_of_one_canvas
