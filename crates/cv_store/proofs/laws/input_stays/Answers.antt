use Rattle.cv_store.proofs.LawLemmas.{input_stays}
use Rattle.cv_store.proofs.laws.input_stays.Goals as goal

pub returns : goal.returns
returns c = input_stays
