use Rattle.cv_event.specs.declared.entry.Act.TheVariants as act
use Rattle.cv_desked.proofs.OwedLemmas.{owed_end}
use Rattle.cv_desked.proofs.table.Table.fail.Goals as goal

pub invariant_of-self : goal.invariant_of-self
invariant_of-self c =
    owed_end c.fail.result c.self.inside.desk c.fail.new.self c.args.who (act.Fail c.args.job) c.self.inside.held c.fail.ensures.ok
    c.fail.ensures.err tt c.self.invariant
