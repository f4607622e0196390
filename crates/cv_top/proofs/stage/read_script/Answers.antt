-- The file is read, and its bytes said.
use Rattle.cv_outside.specs.Seen.{shelf_seen}
use Rattle.cv_open.specs.declared.ends.Which.TheVariants.{Script}
use Rattle.cv_open.proofs.ReadingLemmas.{file_ends, file_goes}
use Rattle.cv_top.specs.Sessions.{script_said}
use Rattle.cv_top.proofs.stage.read_script.Goals as goal

pub returns-in-Ok-clause-read : goal.returns-in-Ok-clause-read
returns-in-Ok-clause-read g c =
    file_goes (record { which = Script; name = c.args.name.now }) script_said
    (shelf_seen g.F.Shelf c.args.shelf.now) (shelf_seen g.F.Shelf c.fetch.new.shelf) _ c.in-Ok.got c.script_of.result
    c.in-Ok.ensures.stands c.in-Ok.ensures.read c.script_of.ensures.said

pub returns-in-Err-clause-read : goal.returns-in-Err-clause-read
returns-in-Err-clause-read g c =
    file_ends (record { which = Script; name = c.args.name.now }) script_said c.in-Err.end
    (shelf_seen g.F.Shelf c.args.shelf.now) (shelf_seen g.F.Shelf c.fetch.new.shelf) c.in-Err.ensures.read
