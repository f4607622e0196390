-- Each turn reads a record, and adds it or answers; there are fewer records than bytes.
use Rattle.std.proofs.lemmas.Result.{err_from_is_err_and}
use Rattle.csv.specs.Records.{fields_of}
use Rattle.cv_dtext.specs.Records.{slice_left}
use Rattle.cv_dtext.proofs.AnswerLemmas.{begun, ended, stopped, overfull, added, none_given, record_given}
use Rattle.cv_dtext.proofs.features.gather.Goals as goal

pub loop-number-init : goal.loop-number-init
loop-number-init c =
    begun slice_left c.args.options.now.delimiter c.args.options.now.room c.args.place
    (fields_of c.args.header.now) c.args.reader.now c.new-gathered.result
    c.requires.between c.requires.expects (c.new-gathered.ensures c.args.place)

pub returns-in_default-clause-table : goal.returns-in_default-clause-table
returns-in_default-clause-table c =
    let l = c.loop-number in
    let d = c.args.options.now.delimiter in
    let next = c.in_ok-next.ensures d l.invariant.behind in
    (ended slice_left d c.args.options.now.room c.args.place
    (fields_of c.args.header.now) c.args.reader.now l.reader c.next_texts.new.reader l.gathered l.number
    c.requires.within l.invariant
    (none_given slice_left d l.number l.reader c.next_texts.new.reader c.in_ok-next.next c.in_default.is
    next)).1

pub returns-in_err-add-clause-err : goal.returns-in_err-add-clause-err
returns-in_err-add-clause-err c =
    let l = c.loop-number in
    let d = c.args.options.now.delimiter in
    let next = c.in_ok-next.ensures d l.invariant.behind in
    let given = record_given slice_left d l.number l.reader c.next_texts.new.reader c.in_ok-next.next
    c.in-Some.texts c.in-Some.is next in
    let passed = err_from_is_err_and c.from_residual-in_err-add.result
    c.from_residual-in_err-add.ensures.1 in
    rw (passed.1, passed.2)
    (λ more. overfull slice_left d c.args.options.now.room c.args.place (fields_of c.args.header.now)
    c.args.reader.now l.reader c.next_texts.new.reader l.gathered c.add.new.self l.number
    (fields_of c.in-Some.texts) c.in_err-add.field-0.0 l.invariant given.0 given.1 c.in_err-add.ensures more)

pub returns-in_err-next-clause-err : goal.returns-in_err-next-clause-err
returns-in_err-next-clause-err c =
    let l = c.loop-number in
    let d = c.args.options.now.delimiter in
    let passed = err_from_is_err_and c.from_residual.result c.from_residual.ensures.1 in
    rw (passed.1, passed.2)
    (λ more. stopped slice_left d c.args.options.now.room c.args.place (fields_of c.args.header.now)
    c.args.reader.now l.reader c.next_texts.new.reader l.gathered l.number c.in_err-next.field-0.0 l.invariant
    (c.in_err-next.ensures d l.invariant.behind) more)

pub loop-number-preserved : goal.loop-number-preserved
loop-number-preserved c =
    let l = c.loop-number in
    let d = c.args.options.now.delimiter in
    let next = c.in_ok-next.ensures d l.invariant.behind in
    let given = record_given slice_left d l.number l.reader c.next_texts.new.reader c.in_ok-next.next
    c.in-Some.texts c.in-Some.is next in
    let done = c.in_ok-add.ensures in
    added slice_left d c.args.options.now.room c.args.place
    (fields_of c.args.header.now) c.args.reader.now l.reader c.next_texts.new.reader l.gathered
    c.add.new.self l.number (fields_of c.in-Some.texts) l.invariant given.0 given.1 done.0 done.1
