-- Each sign is no decimal, and the word of its kind.
use Rattle.std.proofs.Common.{rules}
use Rattle.cv_number.specs.Reader.{decimal_of}
use Rattle.cv_wkt.specs.Kind.{kind_of, word_kind}
use Rattle.cv_wkt.proofs.kind.sign_kind.Goals as goal

pub returns-in-40-clause-kind : goal.returns-in-40-clause-kind
unfolding kind_of word_kind decimal_of
returns-in-40-clause-kind c = search rules

pub returns-in-41-clause-kind : goal.returns-in-41-clause-kind
unfolding kind_of word_kind decimal_of
returns-in-41-clause-kind c = search rules

pub returns-in-44-clause-kind : goal.returns-in-44-clause-kind
unfolding kind_of word_kind decimal_of
returns-in-44-clause-kind c = search rules

pub returns-in-59-clause-kind : goal.returns-in-59-clause-kind
unfolding kind_of word_kind decimal_of
returns-in-59-clause-kind c = search rules

pub returns-in-61-clause-kind : goal.returns-in-61-clause-kind
unfolding kind_of word_kind decimal_of
returns-in-61-clause-kind c = search rules
