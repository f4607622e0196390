use Rattle.std.proofs.Common.{◌≡◌, ◌∙◌, sym, ap, rules}
use Rattle.std.proofs.lemmas.List.Sorted.{answers_always}
use Rattle.cv_geom.specs.Runs.{united}
use Rattle.cv_geom.proofs.UniteLemmas.{place_of, unites-moved, unites-followed}
use Rattle.cv_geom.proofs.runs.Runs.unite.Goals as goal

pub returns : goal.returns
returns c =
    let sorted = c.sort_unstable_by_key.ensures.sorted place_of (answers_always _ _ _ (λ f a r g h. search rules)) in
    let told = unites-moved _ _ c.sort_unstable_by_key.ensures.permutation sorted in
    let new : c.swap.new.x.items ≡ united c.sort_unstable_by_key.new.self.items =
    ap (λ (v : _). v.items) c.swap.ensures.x_after ∙ c.in_ok-put_united.ensures ∙ ap united c.deref-2.ensures.value in
    rw (new, sym c.self.view_is) told

pub returns-then-are_in_order : goal.returns-then-are_in_order
returns-then-are_in_order c =
    let told = rw c.deref.ensures.value at c.are_in_order.ensures c.if-are_in_order.true in
    rw (sym c.self.view_is) (unites-followed _ told)
