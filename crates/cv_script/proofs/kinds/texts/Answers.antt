use Rattle.std.proofs.Common.{◌≡◌, ◌+◌, ◌∷◌, drop, sym, ap, ◌∙◌, arith}
use Rattle.std.proofs.lemmas.List.{drop_more}
use Rattle.cv_script.proofs.KindLemmas.{texts_more, texts_bad}
use Rattle.cv_script.proofs.kinds.texts.Goals as goal

pub loop-word-preserved : goal.loop-word-preserved
loop-word-preserved c =
    let l = c.loop-word in
    let xs = c.args.words.now in
    let x = c.word-item.result in
    let here : drop l.word-index xs ≡ x ∷ drop (l.word-index + 1) xs = drop_more xs l.word-index x (omega arith)
    ∙ ap (λ y. y ∷ drop (l.word-index + 1) xs) (sym c.word-item.is) in
    rw c.in_ok-put-in-Ok.ensures.ok (texts_more xs l.word-index l.texts x _ l.invariant here
    (rw c.as_slice.ensures at c.in-Ok.ensures))

pub returns-in-Err : goal.returns-in-Err
returns-in-Err c = λ other.
    let l = c.loop-word in
    let xs = c.args.words.now in
    let x = c.word-item.result in
    let here : drop l.word-index xs ≡ x ∷ drop (l.word-index + 1) xs = drop_more xs l.word-index x (omega arith)
    ∙ ap (λ y. y ∷ drop (l.word-index + 1) xs) (sym c.word-item.is) in
    texts_bad xs l.word-index l.texts x l.invariant here (rw c.as_slice.ensures at (c.in-Err.ensures other))
