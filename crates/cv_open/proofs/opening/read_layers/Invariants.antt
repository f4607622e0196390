-- The layers so far were read, and those that are left follow.
use Rattle.std.proofs.Common.{◌≡◌, ◌≤◌, [], drop, length}
use Rattle.cv_outside.specs.Seen.{shelf_seen, ShelfStands}
use Rattle.cv_open.specs.Opened.{layers_read}
use Rattle.cv_open.specs.Readings.{LeadsTo}
use Rattle.cv_open.specs.Rooms.{all_left}
use Rattle.cv_open.proofs.opening.read_layers.Given as goal

abbrev pub invariant-loop-layer : goal.invariant-loop-layer
invariant-loop-layer g l = record {
  at : l.place ≡ l.layer-index;
  few : length l.layers ≤ 32;
  stands : ShelfStands (shelf_seen g.F.Shelf l.fn.shelf) (shelf_seen g.F.Shelf l.shelf);
  leads :
      LeadsTo (layers_read 0 all_left [] l.layers) (layers_read l.place l.left l.contents (drop l.layer-index l.layers))
      (shelf_seen g.F.Shelf l.fn.shelf) (shelf_seen g.F.Shelf l.shelf);
}
