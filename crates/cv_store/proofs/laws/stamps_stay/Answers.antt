use Rattle.cv_store.proofs.LawLemmas.{stamps_stay}
use Rattle.cv_store.proofs.laws.stamps_stay.Goals as goal

pub returns : goal.returns
returns c = stamps_stay
