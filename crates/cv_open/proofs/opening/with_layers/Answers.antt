-- The layers are read, and the project stands with them.
use Rattle.std.proofs.Common.{List, [], Ok, Err, subst}
use Rattle.cv_outside.specs.Seen.{shelf_seen}
use Rattle.cv_open.specs.Opened.{layers_read}
use Rattle.cv_model.specs.declared.project.LayerFile.{LayerFile}
use Rattle.cv_open.specs.Readings.{only, IsReadAs}
use Rattle.cv_open.specs.Rooms.{all_left}
use Rattle.cv_open.proofs.LimitLemmas.{read_can_open}
use Rattle.cv_open.proofs.ReadingLemmas.{then_leads, then_ends}
use Rattle.cv_open.proofs.opening.with_layers.Goals as goal

pub returns-in-Ok-clause-read : goal.returns-in-Ok-clause-read
returns-in-Ok-clause-read g c =
    then_leads (layers_read 0 all_left [] c.args.file.layers) (λ contents. only (Ok (record { file = c.args.file; contents = contents })))
    (Ok c.in-Ok.contents) (shelf_seen g.F.Shelf c.args.shelf.now) (shelf_seen g.F.Shelf c.read_layers.new.shelf)
    (rw c.layers.ensures at c.in-Ok.ensures.read)

pub returns-in-Ok-clause-can : goal.returns-in-Ok-clause-can
returns-in-Ok-clause-can g c =
    read_can_open c.args.file c.in-Ok.contents (shelf_seen g.F.Shelf c.args.shelf.now) (shelf_seen g.F.Shelf c.read_layers.new.shelf)
    c.requires (rw c.layers.ensures at c.in-Ok.ensures.read)

pub returns-in-Err-clause-read : goal.returns-in-Err-clause-read
returns-in-Err-clause-read g c =
    then_ends (layers_read 0 all_left [] c.args.file.layers) (λ contents. only (Ok (record { file = c.args.file; contents = contents })))
    c.in-Err.end (shelf_seen g.F.Shelf c.args.shelf.now) (shelf_seen g.F.Shelf c.read_layers.new.shelf)
    (subst (λ (layers : List LayerFile). IsReadAs (layers_read 0 all_left [] layers) (Err c.in-Err.end)
    (shelf_seen g.F.Shelf c.args.shelf.now) (shelf_seen g.F.Shelf c.read_layers.new.shelf)) c.layers.ensures c.in-Err.ensures.read)
