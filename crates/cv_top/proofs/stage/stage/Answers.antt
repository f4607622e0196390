-- The project is opened, and then the script read.
use Rattle.std.proofs.Common.{Ok}
use Rattle.cv_outside.specs.Seen.{shelf_seen}
use Rattle.cv_open.specs.Opened.{opened}
use Rattle.cv_open.proofs.ReadingLemmas.{goes_on, then_leads, then_ends}
use Rattle.cv_top.specs.Sessions.{script_for, session_read}
use Rattle.cv_top.proofs.stage.stage.Goals as goal

pub returns-in-Ok-clause-read : goal.returns-in-Ok-clause-read
returns-in-Ok-clause-read g c =
    let old = shelf_seen g.F.Shelf c.args.shelf.now in
    let half = shelf_seen g.F.Shelf c.open.new.shelf in
    goes_on (session_read c.args.project.now c.args.script.now) (script_for c.args.script.now c.in-Ok.opened) c.with_script.result old half
    (shelf_seen g.F.Shelf c.with_script.new.shelf) c.in-Ok.ensures.stands
    (then_leads (opened c.args.project.now) (script_for c.args.script.now) (Ok c.in-Ok.opened) old half c.in-Ok.ensures.read)
    c.with_script.ensures.read

pub returns-in-Err-clause-read : goal.returns-in-Err-clause-read
returns-in-Err-clause-read g c =
    then_ends (opened c.args.project.now) (script_for c.args.script.now) c.in-Err.end (shelf_seen g.F.Shelf c.args.shelf.now)
    (shelf_seen g.F.Shelf c.open.new.shelf) c.in-Err.ensures.read
