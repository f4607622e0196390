use Rattle.std.proofs.Common.{sym, subst, refl, rules}
use Rattle.cv_model.specs.declared.edit.Edit.TheVariants.{MoveLayer}
use Rattle.cv_store.specs.Answers.{IsEdited}
use Rattle.cv_store.proofs.Changes.{row_at, move_none, move_bad}
use Rattle.cv_store.proofs.Edited.{moved_edited}
use Rattle.cv_store.proofs.Verdicts.{place_refused}
use Rattle.cv_store.proofs.store.Store.move_layer.Goals as goal

pub returns-in-Err-clause-answer : goal.returns-in-Err-clause-answer
returns-in-Err-clause-answer c =
    place_refused c.args.self.now (MoveLayer c.args.layer c.args.place) c.args.layer c.in-Err.error refl refl refl refl
    c.in-Err.ensures

pub returns-then-place-len-clause-answer : goal.returns-then-place-len-clause-answer
returns-then-place-len-clause-answer c = move_bad c.args.self.now c.args.layer c.in-Ok.at c.args.place
    c.layers.ensures.kept c.in-Ok.ensures.0 c.in-Ok.ensures.1 c.layers.result.now c.layers.ensures.layers (search rules)

pub returns-clause-answer : goal.returns-clause-answer
returns-clause-answer c = (
  move_none c.args.self.now c.args.layer c.in-Ok.at c.args.place c.layers.ensures.kept c.in-Ok.ensures.0
      c.in-Ok.ensures.1 c.layers.result.now c.layers.ensures.layers (search rules),
  c.shift.ensures.version,
)

pub returns-clause-ok : goal.returns-clause-ok
returns-clause-ok c =
    let s = c.args.self.now in
    let row = row_at s c.args.layer c.in-Ok.at c.in-Ok.ensures.0 in
    subst (λ t. IsEdited s (MoveLayer c.args.layer c.args.place) t) (sym (c.shift.ensures.made row.0 row.1))
    (moved_edited s (MoveLayer c.args.layer c.args.place) c.args.layer c.in-Ok.at row.0 c.layers.ensures.kept
    c.in-Ok.ensures.0 row.1 c.args.place refl refl refl)
