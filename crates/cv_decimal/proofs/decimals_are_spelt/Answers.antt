use Rattle.cv_decimal.proofs.ValueLemmas.{decimal_of_spelt, decimal_of_none}
use Rattle.cv_decimal.proofs.decimals_are_spelt.Goals as goal

pub returns-clause-value : goal.returns-clause-value
returns-clause-value c = decimal_of_spelt

pub returns-clause-none : goal.returns-clause-none
returns-clause-none c = decimal_of_none
