-- A read of bytes, and the test that they are texts.
use Rattle.std.proofs.Common.{sym, subst, refl}
use Rattle.std.proofs.lemmas.Bool.{false≢true}
use Rattle.std.proofs.lemmas.Result.{err_from_is_err_and}
use Rattle.csv.specs.Records.{fields_of}
use Rattle.cv_dtext.specs.Records.{Fields}
use Rattle.cv_dtext.specs.Records.{slice_left, bytes_left, Gave}
use Rattle.cv_dtext.proofs.ReadLemmas.{none_found, one_found, no_text, texts_pass, refused_alike}
use Rattle.cv_dtext.proofs.records.next_texts.Goals as goal

pub returns-in_err-next : goal.returns-in_err-next
returns-in_err-next c =
    let old = c.args.reader.now in
    let passed = err_from_is_err_and c.from_residual.result c.from_residual.ensures.1 in
    rw (passed.1, passed.2)
    (λ d between. refused_alike slice_left d c.args.number old c.next_bytes.new.reader c.in_err-next.field-0.0
    between (c.in_err-next.ensures d old.state (bytes_left slice_left old) old.expected between.stands))

pub returns-in_default : goal.returns-in_default
returns-in_default c = λ d between.
    let old = c.args.reader.now in
    none_found slice_left d c.args.number old c.next_bytes.new.reader c.in_ok-next.next c.in_default.is
    (c.in_ok-next.ensures d old.state (bytes_left slice_left old) old.expected between.stands)

pub returns-in-Ok : goal.returns-in-Ok
returns-in-Ok c = λ d between.
    let old = c.args.reader.now in let new = c.next_bytes.new.reader in
    let found = one_found slice_left d c.args.number old new c.in_ok-next.next c.in-Some.found c.in-Some.is
    between
    (c.in_ok-next.ensures d old.state (bytes_left slice_left old) old.expected between.stands) in
    let texts = c.in-Ok.ensures in (
      subst (λ (fields : Fields). Gave slice_left d old new fields) (sym texts.same) found,
      texts_pass _ texts.text,
    )

pub returns : goal.returns
returns c = λ d between.
    let old = c.args.reader.now in let new = c.next_bytes.new.reader in
    let found = one_found slice_left d c.args.number old new c.in_ok-next.next c.in-Some.found c.in-Some.is
    between
    (c.in_ok-next.ensures d old.state (bytes_left slice_left old) old.expected between.stands) in (
      refl,
      no_text slice_left d old new (fields_of c.in-Some.found) found
          (λ texts. false≢true (c.in-Err.ensures.refused texts)),
    )
