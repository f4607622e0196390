-- What the reader answers is said of the bytes.
use Rattle.std.proofs.Common.{Result, ap, subst, rules, ◌∙◌, ◌≡◌}
use Rattle.cv_model.specs.ProjectFiles.{FileParts}
use Rattle.cv_project.specs.Errors.{answered}
use Rattle.cv_project.specs.declared.error.ProjectError.{ProjectError}
use Rattle.cv_project.specs.declared.error.ProjectError.TheVariants.{NoMemory}
use Rattle.cv_open.specs.Opened.{project_in, as_project}
use Rattle.cv_open.specs.Readings.{only, IsReadAs}
use Rattle.cv_open.proofs.OpenedLemmas.{project_stays, tree_said, project_refused}
use Rattle.cv_open.proofs.ReadingLemmas.{stays}
use Rattle.cv_open.proofs.opening.project_in.Goals as goal

pub returns-in-Ok-clause-said : goal.returns-in-Ok-clause-said
returns-in-Ok-clause-said c = λ shelf.
    let f = c.in-Ok.ensures.found in
    subst (λ (p : Result FileParts ProjectError). IsReadAs (only (as_project (project_in c.args.bytes.now))) (as_project p) shelf shelf)
    (tree_said c.args.bytes.now f.0 f.1 ∙ ap answered f.2) (project_stays (project_in c.args.bytes.now) shelf)

pub returns-in-Err-NoMemory-clause-said : goal.returns-in-Err-NoMemory-clause-said
returns-in-Err-NoMemory-clause-said c = λ shelf. (only (as_project (project_in c.args.bytes.now)), stays _ shelf)

pub returns-in-Err : goal.returns-in-Err
returns-in-Err c =
    let other : c.in-Err.error ≡ NoMemory → ⊥ = search rules in record {
      said = project_refused c.args.bytes.now c.in-Err.error other c.in-Err.ensures.exact c.in-Err.ensures.not_json;
      form = tt;
    }
