-- The file is read, and its bytes said.
use Rattle.cv_outside.specs.Seen.{shelf_seen}
use Rattle.cv_open.specs.declared.ends.Which.TheVariants.{Project}
use Rattle.cv_open.specs.Opened.{project_of, as_project}
use Rattle.cv_open.proofs.ReadingLemmas.{file_ends, file_goes}
use Rattle.cv_open.proofs.opening.read_project.Goals as goal

pub returns-in-Ok-clause-read : goal.returns-in-Ok-clause-read
returns-in-Ok-clause-read g c =
    file_goes (record { which = Project; name = c.args.name.now }) (λ bytes. as_project (project_of bytes))
    (shelf_seen g.F.Shelf c.args.shelf.now) (shelf_seen g.F.Shelf c.fetch.new.shelf) _ c.in-Ok.got c.project_of.result
    c.in-Ok.ensures.stands c.in-Ok.ensures.read c.project_of.ensures.said

pub returns-in-Err-clause-read : goal.returns-in-Err-clause-read
returns-in-Err-clause-read g c =
    file_ends (record { which = Project; name = c.args.name.now }) (λ bytes. as_project (project_of bytes)) c.in-Err.end
    (shelf_seen g.F.Shelf c.args.shelf.now) (shelf_seen g.F.Shelf c.fetch.new.shelf) c.in-Err.ensures.read
