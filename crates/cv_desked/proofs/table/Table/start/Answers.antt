use Rattle.cv_desked.proofs.OwedLemmas.{owed_start}
use Rattle.cv_desked.proofs.table.Table.start.Goals as goal

pub invariant_of-self : goal.invariant_of-self
invariant_of-self c =
    owed_start c.start.result c.self.inside.desk c.start.new.self c.args.who c.args.canvas c.self.inside.held
    c.start.ensures.ok c.start.ensures.err c.self.invariant
