use Rattle.cv_desk.proofs.LawLemmas.{stamps_tell_present_inputs}
use Rattle.cv_desk.proofs.laws.stamps_tell_present_inputs.Goals as goal

pub returns : goal.returns
returns c = stamps_tell_present_inputs
