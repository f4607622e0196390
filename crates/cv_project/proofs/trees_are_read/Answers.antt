use Rattle.std.proofs.Common.{[]}
use Rattle.cv_project.proofs.ProjectTableLemmas.{file-stands}
use Rattle.cv_project.proofs.trees_are_read.Goals as goal

pub returns : goal.returns
returns c = λ file form kept. (file-stands file form kept).reads []
