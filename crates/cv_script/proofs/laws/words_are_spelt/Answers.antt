-- What the machine of words reads is what is spelt.
use Rattle.cv_script.proofs.SpellingLemmas.{words_exactly}
use Rattle.cv_script.proofs.laws.words_are_spelt.Goals as goal

pub returns : goal.returns
returns c = words_exactly
