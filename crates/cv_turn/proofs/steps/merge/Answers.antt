use Rattle.std.proofs.Common.{rules}
use Rattle.cv_turn.proofs.SplitLemmas.{meets, learns}
use Rattle.cv_turn.proofs.steps.merge.Goals as goal

pub join_seat-requires : goal.join_seat-requires
join_seat-requires g c =
    let idle = c.requires.idle in
    let other = c.requires.other in
    (search rules, search rules, search rules, search rules, meets _ _ _ _ _ _ _ _ _ idle.0.0 idle.0.1 idle.1 other.1.0 other.1.1 c.requires.next)

pub load-requires : goal.load-requires
load-requires g c = (search rules, search rules, learns _ _ _ _ _ _ _ _ (search rules))
