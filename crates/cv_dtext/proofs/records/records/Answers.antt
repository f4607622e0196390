-- A new reader stands at the front of its bytes.
use Rattle.cv_dtext.specs.Records.{slice_left}
use Rattle.cv_dtext.proofs.OpeningLemmas.{all_left, short_left}
use Rattle.cv_dtext.proofs.records.records.Goals as goal

pub returns-clause-all : goal.returns-clause-all
returns-clause-all c =
    all_left slice_left c.args.delimiter c.from_reader.result c.args.bytes.now c.from_reader.ensures.state
    c.from_reader.ensures.source

pub returns-clause-short : goal.returns-clause-short
returns-clause-short c =
    short_left slice_left c.from_reader.result c.args.bytes.now c.from_reader.ensures.source
