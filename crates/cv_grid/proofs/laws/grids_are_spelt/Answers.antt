use Rattle.cv_grid.proofs.AnswerLemmas.{grid_spelt, grid_refused}
use Rattle.cv_grid.proofs.laws.grids_are_spelt.Goals as goal

pub returns-clause-found : goal.returns-clause-found
returns-clause-found c = grid_spelt

pub returns-clause-fault : goal.returns-clause-fault
returns-clause-fault c = grid_refused
