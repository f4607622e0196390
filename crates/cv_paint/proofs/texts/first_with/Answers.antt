use Rattle.std.proofs.Common.{ℕ, List, sym, subst, ap, ◌≡◌, ◌∙◌, Some, None}
use Rattle.std.specs.Prelude.{find}
use Rattle.cv_model.specs.Texts.{has_text}
use Rattle.cv_paint.proofs.LayingLemmas.{found_behind, found_in, run_within}
use Rattle.cv_paint.proofs.texts.first_with.Goals as goal

pub returns-in-Some : goal.returns-in-Some
returns-in-Some c =
    let p = has_text c.args.table.now.columns c.args.name.now c.args.text.now in
    let P : List (List ℕ) → Type 0 = λ cols. Some c.in-Some.row.now ≡ find (has_text cols c.args.name.now c.args.text.now) c.run_from-run.result.now in
    let found = subst P c.columns.ensures c.in-Some.ensures in
    sym (found_in p c.rows-rows.result.now c.run_from-run.result.now c.loop-at.at c.in-Some.row.now
    c.run_from-run.ensures.same (sym found))
    ∙ c.loop-at.invariant.1 ∙ ap (find p) c.rows-rows.ensures.rows

pub loop-at-preserved : goal.loop-at-preserved
loop-at-preserved c =
    let p = has_text c.args.table.now.columns c.args.name.now c.args.text.now in
    let P : List (List ℕ) → Type 0 = λ cols. None ≡ find (has_text cols c.args.name.now c.args.text.now) c.run_from-run.result.now in
    let none = subst P c.columns.ensures c.in-None.ensures in (
      run_within c.rows-rows.result.now c.run_from-run.result.now c.loop-at.at c.loop-at.invariant.0 c.run_from-run.ensures.same,
      found_behind p c.rows-rows.result.now c.run_from-run.result.now c.loop-at.at c.run_from-run.ensures.same (sym none)
          ∙ c.loop-at.invariant.1,
    )
