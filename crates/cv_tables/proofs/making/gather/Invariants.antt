use Rattle.std.proofs.Common.{◌≤◌, length, map, drop, filter, reverse}
use Rattle.cv_model.specs.Layers.{is_slot}
use Rattle.cv_store.specs.Stores.{layer_of}
use Rattle.cv_tables.specs.Rows.{IsGathered}
use Rattle.cv_tables.proofs.making.gather.Given as goal

-- those of the layers behind are gathered
abbrev pub invariant-loop-at : goal.invariant-loop-at
invariant-loop-at l =
    (l.at ≤ length l.store.layers)
    × IsGathered l.store (reverse (filter (is_slot l.view) (drop l.at (map layer_of l.store.layers)))) l.made

abbrev pub decreases-loop-at : goal.decreases-loop-at
decreases-loop-at l = l.at
