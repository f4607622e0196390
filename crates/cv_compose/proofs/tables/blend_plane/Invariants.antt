-- The channels so far are blended, and those that are left give the rest.
use Rattle.std.proofs.Common.{◌≡◌, ◌++◌, take, drop}
use Rattle.cv_compose.specs.Planes.{blended_plane}
use Rattle.cv_compose.proofs.tables.blend_plane.Given as goal

abbrev pub invariant-loop-k : goal.invariant-loop-k
invariant-loop-k g l =
    take l.k l.source ++ blended_plane (g.B.Blender.mode l.blender) (drop l.k l.below) (drop l.k l.source)
    ≡ blended_plane (g.B.Blender.mode l.blender) l.below l.fn.source
