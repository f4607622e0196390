use Rattle.std.proofs.Common.{◌≡◌, ◌-◌, ap, arith, length, sym, Some, ◌∙◌}
use Rattle.std.specs.Prelude.{slice_get}
use Rattle.std.proofs.lemmas.Option.{slice_get_within}
use Rattle.cv_layer.proofs.StretchLemmas.{are_joined, are_pushed}
use Rattle.cv_layer.proofs.stretches.put.Goals as goal

pub returns : goal.returns
returns c = λ before ids h g.
    let old = c.args.stretches.now.items in
    let last = c.in-Some.last.now in
    let long : c.len-count.result ≡ length old =
    grind (arith, c.len-count.ensures, c.deref.ensures.len, ap length c.deref.ensures.value) in
    let at : slice_get old (c.len-count.result - 1) ≡ Some last =
    ap (λ n. slice_get old (n - 1)) long ∙ (rw (c.deref.ensures.value) at (sym c.in-Some.ensures.value)) in
    let within = slice_get_within old (c.len-count.result - 1) last at in
    are_joined old (c.len-count.result - 1) last c.args.next c.in_ok-sum.field-0 before ids
    (omega (arith, long, within)) at c.in_ok-sum.ensures c.if-last-next.true h g

pub returns-2 : goal.returns-2
returns-2 c = λ before ids h g. rw (c.in_ok-push.ensures.items)
    (are_pushed c.args.stretches.now.items c.args.next before ids h g)
