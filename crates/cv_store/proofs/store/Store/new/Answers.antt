use Rattle.std.proofs.Common.{sym, subst}
use Rattle.cv_store.specs.Stores.{IsStore}
use Rattle.cv_store.proofs.Kept.{empty}
use Rattle.cv_store.proofs.store.Store.new.Goals as goal

pub invariant_of-result : goal.invariant_of-result
invariant_of-result c =
    subst (λ l. IsStore (record { background = c.args.background; layers = l; version = 1 })) (sym c.new.ensures)
    (empty c.args.background)
