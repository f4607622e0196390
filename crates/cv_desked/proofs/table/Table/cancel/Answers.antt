use Rattle.cv_event.specs.declared.entry.Act.TheVariants as act
use Rattle.cv_desked.proofs.OwedLemmas.{owed_end}
use Rattle.cv_desked.proofs.table.Table.cancel.Goals as goal

pub invariant_of-self : goal.invariant_of-self
invariant_of-self c =
    owed_end c.cancel.result c.self.inside.desk c.cancel.new.self c.args.who (act.Cancel c.args.job) c.self.inside.held c.cancel.ensures.ok
    c.cancel.ensures.err tt c.self.invariant
