-- The function's answer and that of the records.
use Rattle.cv_dtext.proofs.FirstLemmas.{found_exactly, fault_exactly}
use Rattle.cv_dtext.proofs.laws.features_are_read.Goals as goal

pub returns-clause-found : goal.returns-clause-found
returns-clause-found c = found_exactly

pub returns-clause-fault : goal.returns-clause-fault
returns-clause-fault c = fault_exactly
