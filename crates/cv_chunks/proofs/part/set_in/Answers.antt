use Rattle.std.proofs.lemmas.Result.{on_ok_weaker, IfErr-weaker}
use Rattle.cv_chunks.proofs.PartLemmas.{at_part, set_at_place, same_at_part}
use Rattle.cv_chunks.specs.Parts.{IsWithin}
use Rattle.cv_chunks.proofs.part.set_in.Goals as goal

pub returns-clause-ok : goal.returns-clause-ok
returns-clause-ok g c =
    let items = g.P.Part.items in
    let parts = c.args.parts.now.items in
    let place = c.place_of-place.result in
    let part = c.index_mut.result.now in
    let known = at_part (IsWithin items parts c.args.at place.part place.within) parts place.part part (rw
    c.as_slice.ensures.value at c.place_of-place.ensures) c.index_mut.ensures.value in
    on_ok_weaker c.set.result
    (set_at_place items parts c.args.at place.part place.within part c.set.new.self c.args.value known.1)
    c.set.ensures.ok

pub returns-clause-err : goal.returns-clause-err
returns-clause-err g c =
    let items = g.P.Part.items in
    let parts = c.args.parts.now.items in
    let place = c.place_of-place.result in
    let part = c.index_mut.result.now in
    let known = at_part (IsWithin items parts c.args.at place.part place.within) parts place.part part (rw
    c.as_slice.ensures.value at c.place_of-place.ensures) c.index_mut.ensures.value in
    IfErr-weaker c.set.result _ _ (λ e same. (
      same.0,
      same_at_part items parts place.part part
          c.set.new.self known.0 same.1,
    )) c.set.ensures.err
