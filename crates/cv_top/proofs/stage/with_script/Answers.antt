-- The script is read, and stands with the project.
use Rattle.std.proofs.Common.{Ok}
use Rattle.cv_outside.specs.Seen.{shelf_seen}
use Rattle.cv_open.proofs.ReadingLemmas.{then_leads, then_ends}
use Rattle.cv_top.specs.Sessions.{script_read, staged}
use Rattle.cv_top.proofs.stage.with_script.Goals as goal

pub returns-in-Ok-clause-read : goal.returns-in-Ok-clause-read
returns-in-Ok-clause-read g c =
    then_leads (script_read c.args.script.now) (staged c.args.opened) (Ok c.in-Ok.script) (shelf_seen g.F.Shelf c.args.shelf.now)
    (shelf_seen g.F.Shelf c.read_script.new.shelf) c.in-Ok.ensures.read

pub returns-in-Err-clause-read : goal.returns-in-Err-clause-read
returns-in-Err-clause-read g c =
    then_ends (script_read c.args.script.now) (staged c.args.opened) c.in-Err.end (shelf_seen g.F.Shelf c.args.shelf.now)
    (shelf_seen g.F.Shelf c.read_script.new.shelf) c.in-Err.ensures.read
