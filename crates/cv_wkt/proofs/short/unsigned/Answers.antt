-- Digits alone, and digits on both sides of a point.
use Rattle.std.proofs.Common.{subst, arith}
use Rattle.cv_wkt.specs.Short.{AreDigits}
use Rattle.cv_wkt.proofs.ShortLemmas.{size_whole, size_pointed, whole_small}
use Rattle.cv_wkt.proofs.short.unsigned.Goals as goal

pub returns-then-not-stands_at : goal.returns-then-not-stands_at
returns-then-not-stands_at c =
    size_whole c.args.text.now c.front_digits-whole.result.number c.front_digits-whole.result.len
    c.raised.result c.front_digits-whole.ensures.digits c.if-whole-eq0.false c.raised.ensures.value
    c.raised.ensures.small

pub front_digits-all-requires-clause-from : goal.front_digits-all-requires-clause-from
front_digits-all-requires-clause-from c =
    whole_small c.args.text.now c.front_digits-whole.result.number c.front_digits-whole.result.len
    c.front_digits-whole.ensures.digits c.front_digits-whole.ensures.few

pub raised-requires-2-clause-small : goal.raised-requires-2-clause-small
raised-requires-2-clause-small c =
    let whole = whole_small c.args.text.now c.front_digits-whole.result.number
    c.front_digits-whole.result.len c.front_digits-whole.ensures.digits c.front_digits-whole.ensures.few in
    c.front_digits-all.ensures.digits.small 9 (omega (arith, whole))

pub returns : goal.returns
returns c =
    let point = c.stands_at.ensures c.if-not-stands_at.false in
    let behind = subst (λ bs. AreDigits bs c.front_digits-whole.result.number c.front_digits-all.result.number
    c.front_digits-all.result.len) c.rest.ensures c.front_digits-all.ensures.digits in
    size_pointed c.args.text.now c.front_digits-whole.result.number c.front_digits-whole.result.len
    c.front_digits-all.result.number c.front_digits-all.result.len c.raised-2.result
    c.front_digits-whole.ensures.digits c.if-whole-eq0.false point behind
    c.front_digits-all.ensures.few c.raised-2.ensures.value c.raised-2.ensures.small
