-- The plane so far has the bytes of the words so far.
use Rattle.std.proofs.Common.{◌≡◌, map, take}
use Rattle.cv_compose.specs.Planes.{byte_at}
use Rattle.cv_compose.proofs.planes.take_plane.Given as goal

abbrev pub invariant-loop-k : goal.invariant-loop-k
invariant-loop-k g l = map (λ x. x) (take l.k l.plane) ≡ map (byte_at g.row.WORTH) (take l.k l.words)
