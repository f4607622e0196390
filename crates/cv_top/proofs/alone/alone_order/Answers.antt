-- Three words or four are a session, and no other number.
use Rattle.std.proofs.Common.{◌≡◌, List, ℕ, length, sym, subst, arith}
use Rattle.cv_top.specs.Words.{IsAlone}
use Rattle.cv_top.proofs.WordLemmas.{held, three_items, four_items}
use Rattle.cv_top.proofs.alone.alone_order.Goals as goal

pub returns-in-len3-clause-only : goal.returns-in-len3-clause-only
returns-in-len3-clause-only c = λ order q.
    let ws = c.args.rest.now in
    let n : length ws ≡ 3 = omega (arith, c.in-len3.len_at_least, c.in-len3.len_below) in
    let read = three_items ws _ _ _ n (held ws 0 _ _ c.as_str.ensures.text c.a-item.is) (held ws 1 _ _ c.as_str-in-len3.ensures.text c.b-item.is)
    (held ws 2 _ _ c.as_str-in-len3-2.ensures.text c.c-item.is) in
    c.in_one_word.ensures.only order (subst (λ (l : List (List ℕ)). IsAlone l order) read q)

pub returns-in-len4-clause-only : goal.returns-in-len4-clause-only
returns-in-len4-clause-only c = λ order q.
    let ws = c.args.rest.now in
    let n : length ws ≡ 4 = omega (arith, c.in-len4.len_at_least, c.in-len4.len_below) in
    let read = four_items ws _ _ _ _ n (held ws 0 _ _ c.as_str-in-len4.ensures.text c.a-item-then-rest-lt5.is) (held ws 1 _ _ c.as_str-in-len4-2.ensures.text c.b-item-then-rest-lt5.is)
    (held ws 2 _ _ c.as_str-in-len4-3.ensures.text c.c-item-then-rest-lt5.is) (held ws 3 _ _ c.as_str-in-len4-4.ensures.text c.d-item.is) in
    c.in_two_words.ensures.only order (subst (λ (l : List (List ℕ)). IsAlone l order) read q)
