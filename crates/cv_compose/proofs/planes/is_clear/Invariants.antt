-- The alphas so far are 0 if the flag stands, so that the rest decides.
use Rattle.std.proofs.Common.{◌≡◌, ◌&&◌, ◌==◌, drop}
use Rattle.std.specs.List.{list_all}
use Rattle.cv_compose.proofs.planes.is_clear.Given as goal

abbrev pub invariant-loop-alpha : goal.invariant-loop-alpha
invariant-loop-alpha l =
    (l.clear && list_all (λ a. a == 0) (drop l.alpha-index l.alphas)) ≡ list_all (λ a. a == 0) l.alphas
