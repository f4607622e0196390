use Rattle.std.proofs.Common.{refl, arith}
use Rattle.cv_number.specs.declared.place.Place.TheVariants.{Start, Signed}
use Rattle.cv_decimal.proofs.DigitLemmas.{digit_more, front_at_other, goes_first}
use Rattle.cv_decimal.proofs.kept.Kept.keep_digits.Goals as goal

pub returns-in-None : goal.returns-in-None
returns-in-None c =
    let l = c.loop-at in let text = c.args.text.now in let old = c.args.self.now in
    record {
      few = l.invariant.few;
      dropped = l.invariant.dropped;
      places = l.invariant.places;
      within = l.auto.at-end;
      all = front_at_other text l.at (omega arith) c.in-None.ensures.digit l.invariant.front;
      start = λ some. goes_first text old l.self l.at Start some l.auto.at-end (λ d. refl) l.invariant;
      signed = λ some. goes_first text old l.self l.at Signed some l.auto.at-end (λ d. refl) l.invariant;
      rest = l.invariant.rest;
    }

pub loop-at-preserved : goal.loop-at-preserved
loop-at-preserved c =
    let l = c.loop-at in
    let found = c.in-Some.ensures in
    let kept = digit_more c.args.text.now c.args.self.now l.self l.at c.in-Some.digit (omega arith)
    found.digit found.value l.invariant in
    rw (c.push_digit.ensures) kept
