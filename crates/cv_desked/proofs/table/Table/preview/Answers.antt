use Rattle.cv_desked.proofs.OwedLemmas.{owed_preview}
use Rattle.cv_desked.proofs.table.Table.preview.Goals as goal

pub invariant_of-self : goal.invariant_of-self
invariant_of-self c =
    owed_preview c.preview.result c.self.inside.desk c.preview.new.self c.args.who c.args.job c.self.inside.held
    c.preview.ensures.ok c.preview.ensures.err c.self.invariant
