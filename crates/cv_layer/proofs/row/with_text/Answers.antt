use Rattle.std.proofs.Common.{◌+◌, ◌++◌, ◌∷◌, [], take, ap}
use Rattle.std.proofs.lemmas.List.{take_rest}
use Rattle.cv_layer.proofs.TableLemmas.{set_is}
use Rattle.cv_layer.proofs.row.with_text.Goals as goal

pub returns : goal.returns
returns c =
    let texts = c.args.texts.now in
    let at = c.args.at in
    set_is _ texts at c.args.value.now c.requires
    (rw (
      c.in_ok-put_copies-2.ensures,
      c.in_ok-put.ensures.ok,
      c.in_ok-duplicate.ensures,
      c.in_ok-put_copies.ensures,
      c.in_ok-made.ensures,
    )
    (ap (λ l. (take at texts ++ c.args.value.now ∷ []) ++ l) (take_rest texts (at + 1))))
