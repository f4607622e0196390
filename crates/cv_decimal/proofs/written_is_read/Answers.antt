use Rattle.cv_number.specs.declared.fixed.Fixed.TheVariants.{Value}
use Rattle.cv_decimal.specs.Written.{written}
use Rattle.cv_decimal.proofs.ValueLemmas.{decimal_of_spelt}
use Rattle.cv_decimal.proofs.WrittenLemmas.{written_spelt}
use Rattle.cv_decimal.proofs.written_is_read.Goals as goal

pub returns-clause-spelt : goal.returns-clause-spelt
returns-clause-spelt c = written_spelt

pub returns-clause-exact : goal.returns-clause-exact
returns-clause-exact c = λ z h. (decimal_of_spelt (written z) (Value z)).1 (written_spelt z h)
