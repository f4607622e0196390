use Rattle.std.proofs.Common.{sym, refl}
use Rattle.cv_model.specs.declared.edit.Edit.TheVariants.{SetBackground}
use Rattle.cv_store.proofs.Verdicts.{verdict_is, no_limit, spent_limit}
use Rattle.cv_store.proofs.store.Store.set_background.Goals as goal

pub returns-then-is_spent-clause-answer : goal.returns-then-is_spent-clause-answer
returns-then-is_spent-clause-answer c =
    verdict_is c.args.self.now (SetBackground c.args.colour) refl refl refl refl
    (spent_limit c.args.self.now (SetBackground c.args.colour) (sym c.if-is_spent.ensures.spent)) refl

pub returns-clause-answer : goal.returns-clause-answer
returns-clause-answer c = (
  verdict_is c.args.self.now (SetBackground c.args.colour) refl refl refl refl
      (no_limit c.args.self.now (SetBackground c.args.colour) (sym c.if-is_spent.ensures.spent)
      c.recolour.ensures.kept.within refl) refl,
  c.recolour.ensures.version,
)
