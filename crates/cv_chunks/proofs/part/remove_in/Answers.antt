use Rattle.std.proofs.Common.{◌≡◌, length, ap, ◌∙◌, arith, rules}
use Rattle.std.specs.List.{flat_map}
use Rattle.std.proofs.lemmas.Option.{slice_get_within}
use Rattle.cv_chunks.proofs.PartLemmas.{at_part, remove_at_place, same_at_part, without_empty}
use Rattle.cv_chunks.specs.Parts.{IsWithin}
use Rattle.cv_chunks.proofs.part.remove_in.Goals as goal

pub returns-in_err-remove-clause-err : goal.returns-in_err-remove-clause-err
returns-in_err-remove-clause-err g c =
    let items = g.P.Part.items in
    let parts = c.args.parts.now.items in
    let place = c.place_of-place.result in
    let part = c.index_mut-part.result.now in
    let known = at_part (IsWithin items parts c.args.at place.part place.within) parts place.part part (rw
    c.as_slice.ensures.value at c.place_of-place.ensures) c.index_mut-part.ensures.value in
    search (
      rules,
      same_at_part items parts place.part part c.remove.new.self known.0
          c.in_err-remove.ensures.err,
    )

pub returns-then-len-eq0-clause-ok : goal.returns-then-len-eq0-clause-ok
returns-then-len-eq0-clause-ok g c =
    let items = g.P.Part.items in
    let parts = c.args.parts.now.items in
    let place = c.place_of-place.result in
    let part = c.index_mut-part.result.now in
    let known = at_part (IsWithin items parts c.args.at place.part place.within) parts place.part part (rw
    c.as_slice.ensures.value at c.place_of-place.ensures) c.index_mut-part.ensures.value in
    let here = slice_get_within parts place.part part known.0 in
    let empty : length (items c.remove.new.self) ≡ 0 = omega (arith, c.len.ensures) in
    ap (flat_map items) c.remove-then-len-eq0.ensures.items
    ∙ without_empty items parts place.part c.remove.new.self here empty
    ∙ remove_at_place items parts c.args.at place.part place.within part c.remove.new.self known.1
    c.in_ok-remove.ensures.ok

pub returns-else-len-eq0-clause-ok : goal.returns-else-len-eq0-clause-ok
returns-else-len-eq0-clause-ok g c =
    let items = g.P.Part.items in
    let parts = c.args.parts.now.items in
    let place = c.place_of-place.result in
    let part = c.index_mut-part.result.now in
    let known = at_part (IsWithin items parts c.args.at place.part place.within) parts place.part part (rw
    c.as_slice.ensures.value at c.place_of-place.ensures) c.index_mut-part.ensures.value in
    remove_at_place items parts c.args.at place.part place.within part c.remove.new.self known.1
    c.in_ok-remove.ensures.ok
