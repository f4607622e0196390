-- The refusal names the file.
use Rattle.std.proofs.Common.{List, ℕ, Err, codes, subst, sym}
use Rattle.cv_project.specs.declared.error.ProjectError.TheVariants.{Limit}
use Rattle.cv_open.specs.Opened.{as_project}
use Rattle.cv_open.specs.Readings.{only, IsReadAs}
use Rattle.cv_open.proofs.OpenedLemmas.{project_stays}
use Rattle.cv_open.proofs.ReadingLemmas.{stays}
use Rattle.cv_open.proofs.opening.too_long.Goals as goal

pub returns-in-Ok : goal.returns-in-Ok
returns-in-Ok c = λ shelf.
    subst (λ (path : List ℕ). IsReadAs (only (as_project (Err (Limit (codes "file"))))) (as_project (Err (Limit path))) shelf shelf)
    (sym c.in-Ok.ensures) (project_stays (Err (Limit (codes "file"))) shelf)

pub returns-in-Err : goal.returns-in-Err
returns-in-Err c = λ shelf. (only (as_project (Err (Limit (codes "file")))), stays _ shelf)
