use Rattle.cv_desked.proofs.OwedLemmas.{owed_edit}
use Rattle.cv_desked.proofs.table.Table.edit.Goals as goal

pub invariant_of-self : goal.invariant_of-self
invariant_of-self c =
    owed_edit c.edit.result c.self.inside.desk c.edit.new.self c.args.who c.args.edit c.self.inside.held
    c.edit.ensures.entry c.self.invariant
