-- The loop's answer `same` is the machine's, and so says what `IsReading` says of it.
use Rattle.std.proofs.Common.{◌≡◌, ℕ, false, ◌==◌, List, [], length, Ok, Err, sym, ap, ◌∙◌, arith}
use Rattle.std.specs.Result.{result_ok}
use Rattle.cv_decimal.specs.declared.error.DecimalError.TheVariants.{BadByte}
use Rattle.cv_decimal.proofs.ValueLemmas.{spelt_in}
use Rattle.cv_decimal.proofs.ScanLemmas.{keeping_reads, keeping_exact}
use Rattle.cv_decimal.proofs.read.Goals as goal

some_byte : (text : List ℕ) → false ≡ (length text == 0) → text ≡ [] → ⊥
some_byte text e none = let empty = e ∙ ap (λ (x : List ℕ). length x == 0) none in cc

pub returns-in-Ok-clause-found : goal.returns-in-Ok-clause-found
returns-in-Ok-clause-found c =
    ((keeping_reads c.args.text.now (omega arith)).value c.in-Ok.value).0 (sym c.in-Ok.ensures)

pub returns-in-Ok-clause-only : goal.returns-in-Ok-clause-only
returns-in-Ok-clause-only c = λ v h.
    let same = c.in-Ok.ensures ∙ ((keeping_reads c.args.text.now (omega arith)).value v).1 h in
    let value : c.in-Ok.value ≡ v = cc in
    ap Ok value

pub returns-in-Ok-clause-range : goal.returns-in-Ok-clause-range
returns-in-Ok-clause-range c =
    spelt_in c.args.text.now c.in-Ok.value
    (((keeping_reads c.args.text.now (omega arith)).value c.in-Ok.value).0 (sym c.in-Ok.ensures))

pub returns-in-Ok-clause-fault : goal.returns-in-Ok-clause-fault
returns-in-Ok-clause-fault c = λ at. (
  λ e. absurd (cc),
  λ bad. let same = c.in-Ok.ensures
      ∙ ((keeping_reads c.args.text.now (omega arith)).place at).1 bad.1 in absurd (cc),
)

pub returns-in-Ok-clause-exact : goal.returns-in-Ok-clause-exact
returns-in-Ok-clause-exact c = ap result_ok c.in-Ok.ensures ∙ keeping_exact c.args.text.now (omega arith)

pub returns-in-Err-clause-only : goal.returns-in-Err-clause-only
returns-in-Err-clause-only c = λ v h.
    let same = c.in-Err.ensures ∙ ((keeping_reads c.args.text.now (omega arith)).value v).1 h in
    absurd (cc)

pub returns-in-Err-clause-fault : goal.returns-in-Err-clause-fault
returns-in-Err-clause-fault c = λ at. (
  λ e. let place : c.in-Err.at ≡ at = cc in (
    λ none. some_byte c.args.text.now c.if-is_empty.ensures none,
    ((keeping_reads c.args.text.now (omega arith)).place at).0 (sym c.in-Err.ensures ∙ ap Err place),
  ),
  λ bad. let same = c.in-Err.ensures ∙ ((keeping_reads c.args.text.now (omega arith)).place at).1 bad.1 in
      let place : c.in-Err.at ≡ at = cc in
      ap (λ n. Err (BadByte n)) place,
)

pub returns-in-Err-clause-exact : goal.returns-in-Err-clause-exact
returns-in-Err-clause-exact c = ap result_ok c.in-Err.ensures ∙ keeping_exact c.args.text.now (omega arith)
