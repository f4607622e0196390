use Rattle.std.proofs.Common.{◌≡◌, ◌+◌, ◌-◌, length, arith, ◌∙◌, sym}
use Rattle.std.specs.Prelude.{false}
use Rattle.std.proofs.lemmas.Option.{slice_get_within}
use Rattle.cv_chunks.proofs.PartLemmas.{at_part, spot_at_end}
use Rattle.cv_chunks.proofs.part.spot_behind.Goals as goal

pub returns-clause-ok : goal.returns-clause-ok
returns-clause-ok g c =
    let items = g.P.Part.items in
    let full = g.P.EditedPart.full in
    let parts = c.make_room_behind.new.parts.items in
    let last = c.len-part.result - 1 in
    let count : c.len-part.result ≡ length parts = c.len-part.ensures ∙ c.make_room_behind.new.parts.ok.0 in
    let room = rw (sym count) at c.in_ok-make_room_behind.ensures.ok in
    let known = at_part (λ part. full part ≡ false) parts last c.index.result.now room c.index.ensures in
    let number : length parts ≡ last + 1 = omega (
      arith,
      count,
      slice_get_within parts last
          c.index.result.now known.0,
    ) in
    rw (← c.make_room_behind.ensures.same, c.len-within.ensures)
    (spot_at_end items full parts last c.index.result.now known.0 number known.1)
