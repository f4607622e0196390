use Rattle.std.proofs.Common.{sym, subst, refl}
use Rattle.cv_model.specs.declared.edit.Edit.TheVariants.{RemoveLayer}
use Rattle.cv_store.specs.Answers.{IsEdited}
use Rattle.cv_store.proofs.Changes.{row_at, remove_none}
use Rattle.cv_store.proofs.Edited.{removed_edited}
use Rattle.cv_store.proofs.Verdicts.{place_refused}
use Rattle.cv_store.proofs.store.Store.remove_layer.Goals as goal

pub returns-in-Err-clause-answer : goal.returns-in-Err-clause-answer
returns-in-Err-clause-answer c =
    place_refused c.args.self.now (RemoveLayer c.args.layer) c.args.layer c.in-Err.error refl refl refl refl
    c.in-Err.ensures

pub returns-clause-answer : goal.returns-clause-answer
returns-clause-answer c = (
  remove_none c.args.self.now c.args.layer c.in-Ok.at c.take_out.ensures.kept c.in-Ok.ensures.0 c.in-Ok.ensures.1,
  c.take_out.ensures.version,
)

pub returns-clause-ok : goal.returns-clause-ok
returns-clause-ok c =
    let s = c.args.self.now in
    let row = row_at s c.args.layer c.in-Ok.at c.in-Ok.ensures.0 in
    subst (λ t. IsEdited s (RemoveLayer c.args.layer) t) (sym c.take_out.ensures.made)
    (removed_edited s (RemoveLayer c.args.layer) c.args.layer c.in-Ok.at row.0 c.take_out.ensures.kept c.in-Ok.ensures.0 row.1
    refl refl refl)
