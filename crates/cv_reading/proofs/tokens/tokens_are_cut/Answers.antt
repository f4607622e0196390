use Rattle.cv_reading.proofs.TokenLemmas.{cut_bytes, cut_stands}
use Rattle.cv_reading.proofs.tokens.tokens_are_cut.Goals as goal

pub returns-clause-bytes : goal.returns-clause-bytes
returns-clause-bytes c = cut_bytes

pub returns-clause-places : goal.returns-clause-places
returns-clause-places c = cut_stands
