-- Nine digits behind nine fit.
use Rattle.std.proofs.Common.{sym, ◌∙◌, arith}
use Rattle.cv_wkt.proofs.ShortLemmas.{digits_more, digits_fit}
use Rattle.cv_wkt.proofs.short.front_digits.Goals as goal

pub overflow_mul-number : goal.overflow_mul-number
overflow_mul-number c =
    let fits = digits_fit c.args.text.now c.args.from c.loop-at.number c.loop-at.at c.loop-at.invariant
    c.requires.from (omega arith) in
    omega (arith, fits)

pub overflow_add-number : goal.overflow_add-number
overflow_add-number c =
    let fits = digits_fit c.args.text.now c.args.from c.loop-at.number c.loop-at.at c.loop-at.invariant
    c.requires.from (omega arith) in
    omega (arith, fits)

pub loop-at-preserved : goal.loop-at-preserved
loop-at-preserved c =
    digits_more c.args.text.now c.args.from c.loop-at.number c.loop-at.at c.from.result c.loop-at.invariant
    (omega arith) (sym c.is_ascii_digit.ensures.value ∙ c.if-not-is_ascii_digit.false) c.from.ensures
