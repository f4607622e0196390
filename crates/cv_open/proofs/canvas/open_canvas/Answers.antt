-- The project is read, and then what the canvas wants.
use Rattle.std.proofs.Common.{Ok}
use Rattle.cv_outside.specs.Seen.{shelf_seen}
use Rattle.cv_open.specs.Opened.{project_read}
use Rattle.cv_open.specs.Canvases.{layers_for, shown}
use Rattle.cv_open.proofs.ReadingLemmas.{goes_on, then_leads, then_ends}
use Rattle.cv_open.proofs.canvas.open_canvas.Goals as goal

pub returns-in-Ok-clause-read : goal.returns-in-Ok-clause-read
returns-in-Ok-clause-read g c =
    let old = shelf_seen g.F.Shelf c.args.shelf.now in
    let half = shelf_seen g.F.Shelf c.read_project.new.shelf in
    goes_on (shown c.args.name.now c.args.canvas) (layers_for c.args.canvas c.in-Ok.file) c.with_canvas.result old half
    (shelf_seen g.F.Shelf c.with_canvas.new.shelf) c.in-Ok.ensures.stands
    (then_leads (project_read c.args.name.now) (layers_for c.args.canvas) (Ok c.in-Ok.file) old half c.in-Ok.ensures.read)
    c.with_canvas.ensures.read

pub returns-in-Err-clause-read : goal.returns-in-Err-clause-read
returns-in-Err-clause-read g c =
    then_ends (project_read c.args.name.now) (layers_for c.args.canvas) c.in-Err.end (shelf_seen g.F.Shelf c.args.shelf.now)
    (shelf_seen g.F.Shelf c.read_project.new.shelf) c.in-Err.ensures.read
