use Rattle.std.proofs.Common.{◌≡◌, ◌∙◌, sym, ap, refl, length}
use Rattle.std.specs.Vec.{with_items}
use Rattle.std.proofs.lemmas.List.{with_items_is}
use Rattle.cv_model.specs.declared.span.Span.{Span}
use Rattle.cv_scan.specs.declared.scratch.Scratch.{Scratch}
use Rattle.cv_scan.proofs.HeldLemmas.{pairs-on}
use Rattle.cv_scan.proofs.followed.put_followed.Goals as goal

pub returns-clause-marked : goal.returns-clause-marked
returns-clause-marked g c = λ start before.
    let old = c.args.scratch.now in
    let put = rw c.deref_mut.ensures.value at c.put_in_rows-ahead.ensures.marked in
    let new : Scratch = record {
      first = old.first;
      pairs = with_items old.pairs c.put_in_rows-ahead.new.pairs;
      marks = old.marks;
      bits = old.bits;
    } in
    let rows : Span = record { from = c.args.rows.from; end = c.put_in_rows-ahead.result.row } in
    let long : length c.put_in_rows-ahead.new.pairs ≡ old.pairs.len =
    put.length ∙ ap (λ xs. length xs) (sym c.deref_mut.ensures.value) ∙ c.deref_mut.ensures.len in
    let items = with_items_is old.pairs c.put_in_rows-ahead.new.pairs long in
    c.in_ok-put_each.ensures.marked start
    (pairs-on c.args.view.now c.args.low c.args.high c.args.area rows start old new (rw items put) refl refl refl before)
