-- The alphas so far are weighed, and those that are left give the rest.
use Rattle.std.proofs.Common.{◌≡◌, ◌++◌, map, take, drop}
use Rattle.cv_model.specs.Blends.{effective}
use Rattle.cv_compose.proofs.planes.weigh.Given as goal

abbrev pub invariant-loop-alpha : goal.invariant-loop-alpha
invariant-loop-alpha l =
    take l.alpha-index l.alphas ++ map (λ a. effective a l.opacity) (drop l.alpha-index l.alphas)
    ≡ map (λ a. effective a l.opacity) l.fn.alphas
