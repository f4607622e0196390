-- The project is read, and then its layers.
use Rattle.std.proofs.Common.{Ok}
use Rattle.cv_outside.specs.Seen.{shelf_seen}
use Rattle.cv_open.specs.Opened.{project_read, layers_of, opened}
use Rattle.cv_open.proofs.ReadingLemmas.{goes_on, then_leads, then_ends}
use Rattle.cv_open.proofs.opening.open.Goals as goal

pub returns-in-Ok-clause-read : goal.returns-in-Ok-clause-read
returns-in-Ok-clause-read g c =
    let old = shelf_seen g.F.Shelf c.args.shelf.now in
    let half = shelf_seen g.F.Shelf c.read_project.new.shelf in
    goes_on (opened c.args.name.now) (layers_of c.in-Ok.file) c.with_layers.result old half
    (shelf_seen g.F.Shelf c.with_layers.new.shelf) c.in-Ok.ensures.stands
    (then_leads (project_read c.args.name.now) layers_of (Ok c.in-Ok.file) old half c.in-Ok.ensures.read)
    c.with_layers.ensures.read

pub returns-in-Err-clause-read : goal.returns-in-Err-clause-read
returns-in-Err-clause-read g c =
    then_ends (project_read c.args.name.now) layers_of c.in-Err.end (shelf_seen g.F.Shelf c.args.shelf.now)
    (shelf_seen g.F.Shelf c.read_project.new.shelf) c.in-Err.ensures.read
