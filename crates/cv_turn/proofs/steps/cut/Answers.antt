use Rattle.std.proofs.Common.{rules}
use Rattle.cv_turn.proofs.SplitLemmas.{plans, cuts}
use Rattle.cv_turn.proofs.steps.cut.Goals as goal

pub compare_exchange-requires : goal.compare_exchange-requires
compare_exchange-requires g c = (search rules, search rules, plans _ _ _ _ _ _ _ _ _ c.requires.idle.2)

pub split_seat-requires : goal.split_seat-requires
split_seat-requires g c = (search rules, search rules, cuts _ _ _ _ _ _ _ (search rules) (search rules) (search rules) (search rules))
