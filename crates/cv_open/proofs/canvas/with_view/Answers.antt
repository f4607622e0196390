-- The layers are read, and stand with the view.
use Rattle.std.proofs.Common.{Ok}
use Rattle.cv_outside.specs.Seen.{shelf_seen}
use Rattle.cv_open.specs.Opened.{layers_of}
use Rattle.cv_open.specs.Canvases.{shown_at}
use Rattle.cv_open.proofs.ReadingLemmas.{then_leads, then_ends}
use Rattle.cv_open.proofs.canvas.with_view.Goals as goal

pub returns-in-Ok-clause-read : goal.returns-in-Ok-clause-read
returns-in-Ok-clause-read g c =
    then_leads (layers_of c.args.file) (shown_at c.args.view) (Ok c.in-Ok.opened) (shelf_seen g.F.Shelf c.args.shelf.now)
    (shelf_seen g.F.Shelf c.with_layers.new.shelf) c.in-Ok.ensures.read

pub returns-in-Err-clause-read : goal.returns-in-Err-clause-read
returns-in-Err-clause-read g c =
    then_ends (layers_of c.args.file) (shown_at c.args.view) c.in-Err.end (shelf_seen g.F.Shelf c.args.shelf.now)
    (shelf_seen g.F.Shelf c.with_layers.new.shelf) c.in-Err.ensures.read
