-- The option stands first, in the middle, or last.
use Rattle.cv_top.proofs.WordLemmas.{two_first, two_middle, two_last}
use Rattle.cv_top.proofs.alone.in_two_words.Goals as goal

pub returns-then-is_option-clause-found : goal.returns-then-is_option-clause-found
returns-then-is_option-clause-found c =
    two_first c.args.a.now c.args.b.now c.args.c.now c.args.d.now c.named.result (c.is_option.ensures.0 c.if-is_option.true) c.named.ensures.found

pub returns-then-is_option-2-clause-found : goal.returns-then-is_option-2-clause-found
returns-then-is_option-2-clause-found c =
    two_middle c.args.a.now c.args.b.now c.args.c.now c.args.d.now c.named-then-is_option-2.result (c.is_option-2.ensures.0 c.if-is_option-2.true) c.named-then-is_option-2.ensures.found

pub returns-then-is_option-3-clause-found : goal.returns-then-is_option-3-clause-found
returns-then-is_option-3-clause-found c =
    two_last c.args.a.now c.args.b.now c.args.c.now c.args.d.now c.named-then-is_option-3.result (c.is_option-3.ensures.0 c.if-is_option-3.true) c.named-then-is_option-3.ensures.found
