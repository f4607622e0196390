use Rattle.std.proofs.Common.{sym, arith, ◌∙◌}
use Rattle.std.proofs.lemmas.Option.{none-some}
use Rattle.cv_top.proofs.WordLemmas.{has_size, viewed, only_viewed}
use Rattle.cv_top.proofs.words.sized.Goals as goal

pub returns-in_err-w-clause-only : goal.returns-in_err-w-clause-only
returns-in_err-w-clause-only c = λ v g.
    let size = has_size c.args.extent v.w v.h v g.gives in absurd (none-some _ (sym c.in_err-w.was ∙ c.whole.ensures.only v.w (omega (arith, size.narrow)) g.width))

pub returns-in_err-h-clause-only : goal.returns-in_err-h-clause-only
returns-in_err-h-clause-only c = λ v g.
    let size = has_size c.args.extent v.w v.h v g.gives in absurd (none-some _ (sym c.in_err-h.was ∙ c.whole-2.ensures.only v.h (omega (arith, size.low)) g.height))

pub returns-clause-found : goal.returns-clause-found
returns-clause-found c =
    viewed c.args.extent c.in_ok-w.w c.in_ok-h.h c.args.w.now c.args.h.now c.ok.result c.view_of.result c.ok.ensures.value c.view_of.ensures.answer c.in_ok-w.ensures.found c.in_ok-h.ensures.found

pub returns-clause-only : goal.returns-clause-only
returns-clause-only c = λ v g.
    let size = has_size c.args.extent v.w v.h v g.gives in
    only_viewed c.args.extent c.in_ok-w.w c.in_ok-h.h v c.ok.result c.view_of.result c.ok.ensures.value c.view_of.ensures.answer
    (sym c.in_ok-w.was ∙ c.whole.ensures.only v.w (omega (arith, size.narrow)) g.width) (sym c.in_ok-h.was ∙ c.whole-2.ensures.only v.h (omega (arith, size.low)) g.height) g.gives
