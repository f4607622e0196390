-- The option stands first, in the middle, or last.
use Rattle.cv_top.proofs.WordLemmas.{one_first, one_middle, one_last}
use Rattle.cv_top.proofs.alone.in_one_word.Goals as goal

pub returns-in-Some-clause-found : goal.returns-in-Some-clause-found
returns-in-Some-clause-found c =
    one_first c.args.a.now c.args.b.now c.args.c.now c.in-Some.number.now c.named.result c.in-Some.ensures.found c.named.ensures.found

pub returns-in-Some-number_in-clause-found : goal.returns-in-Some-number_in-clause-found
returns-in-Some-number_in-clause-found c =
    one_middle c.args.a.now c.args.b.now c.args.c.now c.in-Some-number_in.number.now c.named-in-Some-number_in.result c.in-Some-number_in.ensures.found c.named-in-Some-number_in.ensures.found

pub returns-in-Some-number_in-2-clause-found : goal.returns-in-Some-number_in-2-clause-found
returns-in-Some-number_in-2-clause-found c =
    one_last c.args.a.now c.args.b.now c.args.c.now c.in-Some-number_in-2.number.now c.named-in-Some-number_in-2.result c.in-Some-number_in-2.ensures.found c.named-in-Some-number_in-2.ensures.found
