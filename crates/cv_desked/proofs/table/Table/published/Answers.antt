use Rattle.cv_desked.proofs.OwedLemmas.{owed_save}
use Rattle.cv_desked.proofs.table.Table.published.Goals as goal

pub invariant_of-self : goal.invariant_of-self
invariant_of-self c =
    owed_save c.published.result c.self.inside.desk c.published.new.self c.args.who c.args.canvas c.self.inside.held
    c.published.ensures.entry c.self.invariant
