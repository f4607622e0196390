-- One more copy is one more field.
use Rattle.std.proofs.Common.{◌∙◌, ap, sym, ◌++◌, ◌∷◌, [], ◌-◌, take, drop, append_assoc, arith}
use Rattle.csv.specs.Records.{fields_of}
use Rattle.cv_dtext.proofs.FieldLemmas.{take_more}
use Rattle.cv_dtext.proofs.fields.push_texts.Goals as goal

pub loop-place-preserved : goal.loop-place-preserved
loop-place-preserved c =
    let fields = fields_of c.args.texts.now in
    let before = take (c.loop-place.place - c.args.from) (drop c.args.from fields) in
    let below = c.loop-place-test.true in (
      c.in_ok-put.ensures.ok ∙ ap (λ values. values ++ c.in_ok-of.field-0 ∷ []) c.loop-place.invariant.0
          ∙ ap (λ text. (c.args.values.now ++ before) ++ text ∷ []) (c.in_ok-of.ensures ∙ c.field.ensures)
          ∙ append_assoc c.args.values.now before _
          ∙ ap (λ more. c.args.values.now ++ more)
          (sym (take_more fields c.args.from c.loop-place.place c.loop-place.invariant.1 (omega arith))),
      omega arith,
    )
