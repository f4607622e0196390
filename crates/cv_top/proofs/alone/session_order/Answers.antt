-- The words behind the command are read.
use Rattle.std.proofs.Common.{List, ℕ, codes, subst}
use Rattle.cv_top.specs.Words.{IsAlone}
use Rattle.cv_top.proofs.WordLemmas.{behind_first}
use Rattle.cv_top.proofs.alone.session_order.Goals as goal

pub returns-then-is_session-clause-only : goal.returns-then-is_session-clause-only
returns-then-is_session-clause-only c = λ order q.
    c.alone_order.ensures.only order
    (subst (λ (l : List (List ℕ)). IsAlone l order) (behind_first c.args.words.now (codes "session") q.rest q.spelled) q.alone)
