-- The machine's answer and the grammar's.
use Rattle.cv_wkt.proofs.AnswerLemmas.{geometry_exactly, refusal_exactly}
use Rattle.cv_wkt.proofs.laws.answers_are_spelt.Goals as goal

pub returns-clause-found : goal.returns-clause-found
returns-clause-found c = geometry_exactly

pub returns-clause-fault : goal.returns-clause-fault
returns-clause-fault c = refusal_exactly
