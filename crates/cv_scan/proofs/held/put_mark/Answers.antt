use Rattle.std.proofs.Common.{◌≡◌, ◌∙◌, sym, ap, refl, length}
use Rattle.std.specs.Vec.{with_items}
use Rattle.std.proofs.lemmas.List.{with_items_is}
use Rattle.cv_scan.specs.declared.scratch.Scratch.{Scratch}
use Rattle.cv_scan.proofs.HeldLemmas.{mark-paired}
use Rattle.cv_scan.proofs.held.put_mark.Goals as goal

pub returns-then-put_in_pair : goal.returns-then-put_in_pair
returns-then-put_in_pair c =
    let old = c.args.scratch.now in
    let put = rw c.deref_mut.ensures.value at c.put_in_pair.ensures.put c.if-put_in_pair.true in
    let new : Scratch = record {
      first = old.first;
      pairs = with_items old.pairs c.put_in_pair.new.pairs;
      marks = old.marks;
      bits = old.bits;
    } in
    let long : length c.put_in_pair.new.pairs ≡ old.pairs.len =
    put.length ∙ ap (λ xs. length xs) (sym c.deref_mut.ensures.value) ∙ c.deref_mut.ensures.len in
    let items = with_items_is old.pairs c.put_in_pair.new.pairs long in
    mark-paired c.args.area.now c.args.mark old new c.requires.mark c.requires.held
    (rw items put) refl refl refl
