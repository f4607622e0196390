use Rattle.cv_desked.proofs.OwedLemmas.{owed_went}
use Rattle.cv_desked.proofs.table.Table.work.Goals as goal

pub invariant_of-self : goal.invariant_of-self
invariant_of-self c =
    owed_went c.self.inside.desk c.claim.new.desk c.args.who c.self.inside.held c.requires c.claim.ensures.went c.self.invariant

pub invariant_of-self-2 : goal.invariant_of-self-2
invariant_of-self-2 c =
    owed_went c.claim.new.desk c.perform.new.desk c.args.who c.self.inside.held c.requires c.perform.ensures
    (owed_went c.self.inside.desk c.claim.new.desk c.args.who c.self.inside.held c.requires c.claim.ensures.went c.self.invariant)
