-- The canvas is looked for, and then the layers are read.
use Rattle.std.proofs.Common.{Ok}
use Rattle.cv_outside.specs.Seen.{shelf_seen}
use Rattle.cv_open.specs.Canvases.{view_in, layers_at, layers_for}
use Rattle.cv_open.specs.Readings.{only}
use Rattle.cv_open.proofs.ReadingLemmas.{goes_on, then_leads, then_ends, shelf_stays}
use Rattle.cv_open.proofs.canvas.with_canvas.Goals as goal

pub returns-in-Ok-clause-read : goal.returns-in-Ok-clause-read
returns-in-Ok-clause-read g c =
    let old = shelf_seen g.F.Shelf c.args.shelf.now in
    goes_on (layers_for c.args.canvas c.args.file) (layers_at c.args.file c.in-Ok.view) c.with_view.result old old
    (shelf_seen g.F.Shelf c.with_view.new.shelf) (shelf_stays old)
    (then_leads (only (view_in c.args.file c.args.canvas)) (layers_at c.args.file) (Ok c.in-Ok.view) old old (c.in-Ok.ensures old))
    c.with_view.ensures.read

pub returns-in-Err-clause-read : goal.returns-in-Err-clause-read
returns-in-Err-clause-read g c =
    let old = shelf_seen g.F.Shelf c.args.shelf.now in
    then_ends (only (view_in c.args.file c.args.canvas)) (layers_at c.args.file) c.in-Err.end old old (c.in-Err.ensures old)
