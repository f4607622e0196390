use Rattle.std.proofs.Common.{ℕ, List, ap, sym, subst, ◌∙◌}
use Rattle.std.proofs.lemmas.Option.{none-some, same_Some}
use Rattle.std.specs.Result.{result_ok}
use Rattle.cv_number.specs.declared.fixed.Fixed.TheVariants.{Value}
use Rattle.cv_top.specs.Words.{IsValueOf}
use Rattle.cv_top.proofs.words.number.Goals as goal

pub returns-in_err-ok-clause-only : goal.returns-in_err-ok-clause-only
returns-in_err-ok-clause-only c = λ z h.
    let read = c.read.ensures.only (Value z) (subst (λ (t : List ℕ). IsValueOf t z) (sym c.as_bytes.ensures.value) h) in
    absurd (none-some _ (sym c.in_err-ok.was ∙ c.ok.ensures.value ∙ ap result_ok read))

pub returns-clause-only : goal.returns-clause-only
returns-clause-only c = λ z h.
    let read = c.read.ensures.only (Value z) (subst (λ (t : List ℕ). IsValueOf t z) (sym c.as_bytes.ensures.value) h) in
    c.millionths.ensures.only z (same_Some c.in_ok-ok.field-0 (Value z) (sym c.in_ok-ok.was ∙ c.ok.ensures.value ∙ ap result_ok read))
