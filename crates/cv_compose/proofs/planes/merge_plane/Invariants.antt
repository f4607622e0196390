-- The channels so far are merged, and those that are left give the rest.
use Rattle.std.proofs.Common.{◌≡◌, ◌++◌, take, drop}
use Rattle.cv_model.specs.Blends.{channel_merged}
use Rattle.cv_compose.specs.Planes.{merged_plane}
use Rattle.cv_compose.proofs.planes.merge_plane.Given as goal

abbrev pub invariant-loop-k : goal.invariant-loop-k
invariant-loop-k g l =
    take l.k l.below ++ merged_plane (channel_merged g.M.Mode.mode) (drop l.k l.below) (drop l.k l.source) (drop l.k l.alpha)
    ≡ merged_plane (channel_merged g.M.Mode.mode) l.fn.below l.source l.alpha
