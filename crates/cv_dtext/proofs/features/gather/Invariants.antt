-- What was gathered is that of the records before this one, and those that are left decide.
use Rattle.csv.specs.Records.{fields_of}
use Rattle.cv_dtext.specs.Records.{slice_left}
use Rattle.cv_dtext.proofs.AnswerLemmas.{Along}
use Rattle.cv_dtext.proofs.features.gather.Given as goal

abbrev pub invariant-loop-number : goal.invariant-loop-number
invariant-loop-number l =
    Along slice_left l.options.delimiter l.options.room l.place
    (fields_of l.header) l.fn.reader l.reader l.gathered l.number
