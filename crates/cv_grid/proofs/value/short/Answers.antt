-- Digits up to white space or the end are the token at the front.
use Rattle.std.proofs.Common.{◌≡◌, ◌*◌, pos, to_z, of_z, w64, arith}
use Rattle.std.proofs.lemmas.Int.{ints}
use Rattle.cv_grid.proofs.DigitLemmas.{digits_front}
use Rattle.cv_grid.proofs.value.short.Goals as goal

pub returns : goal.returns
returns c =
    let d = c.front_digits-digits.result in
    let small = c.front_digits-digits.ensures.small in
    let whole : to_z w64 (of_z w64 c.millionths.result) ≡ pos (1000000 * d.number) = omega (arith, ints) in
    digits_front c.args.text.now d.number d.len (to_z w64 (of_z w64 c.millionths.result))
    c.front_digits-digits.ensures c.if-digits-eq0.false
    (c.ends_before.ensures c.if-not-ends_before.false) whole
