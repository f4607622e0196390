use Rattle.cv_desked.proofs.OwedLemmas.{owed_stays}
use Rattle.cv_desked.proofs.table.Table.take.Goals as goal

pub invariant_of-self : goal.invariant_of-self
invariant_of-self c =
    owed_stays c.self.inside.desk c.claim.new.desk 0 c.self.inside.held c.in_err-found.ensures.err c.self.invariant
