use Rattle.cv_event.specs.declared.entry.Act.TheVariants as act
use Rattle.cv_desked.proofs.OwedLemmas.{owed_ok}
use Rattle.cv_desked.proofs.table.Table.set_view.Goals as goal

pub invariant_of-self : goal.invariant_of-self
invariant_of-self c =
    owed_ok c.set_view.result c.self.inside.desk c.set_view.new.self c.args.who (act.View c.args.canvas c.args.view)
    c.self.inside.held c.set_view.ensures.ok c.set_view.ensures.err tt c.self.invariant
