use Rattle.std.proofs.Common.{arith, ◌∙◌, ap, length}
use Rattle.std.proofs.lemmas.Result.{on_ok_weaker, IfErr-weaker}
use Rattle.cv_chunks.proofs.PartLemmas.{at_part, part_fits, insert_at_spot, same_at_part}
use Rattle.cv_chunks.specs.Parts.{IsSpot}
use Rattle.cv_chunks.proofs.part.insert_in.Goals as goal

pub insert-requires-clause-room : goal.insert-requires-clause-room
insert-requires-clause-room g c =
    let items = g.P.Part.items in
    let parts = c.spot_for.new.parts.items in
    let spot = c.in-Ok.spot in
    let part = c.index_mut.result.now in
    let known = at_part (IsSpot items g.P.EditedPart.full parts c.args.at spot.part spot.within) parts
    spot.part part c.in-Ok.ensures.ok c.index_mut.ensures.value in
    omega (arith, part_fits items parts spot.part part known.0, ap length c.spot_for.ensures.same)

pub returns-in-Ok-clause-ok : goal.returns-in-Ok-clause-ok
returns-in-Ok-clause-ok g c =
    let items = g.P.Part.items in
    let full = g.P.EditedPart.full in
    let parts = c.spot_for.new.parts.items in
    let spot = c.in-Ok.spot in
    let part = c.index_mut.result.now in
    let known = at_part (IsSpot items full parts c.args.at spot.part spot.within) parts spot.part part
    c.in-Ok.ensures.ok c.index_mut.ensures.value in
    rw (← c.spot_for.ensures.same)
    (on_ok_weaker c.insert.result
    (insert_at_spot items full parts c.args.at spot.part spot.within part c.insert.new.self c.args.value
    known.1) c.insert.ensures.ok)

pub returns-in-Ok-clause-err : goal.returns-in-Ok-clause-err
returns-in-Ok-clause-err g c =
    let items = g.P.Part.items in
    let parts = c.spot_for.new.parts.items in
    let spot = c.in-Ok.spot in
    let part = c.index_mut.result.now in
    let known = at_part (IsSpot items g.P.EditedPart.full parts c.args.at spot.part spot.within) parts
    spot.part part c.in-Ok.ensures.ok c.index_mut.ensures.value in
    IfErr-weaker c.insert.result _ _
    (λ e same. (
      same.0,
      same_at_part items parts spot.part part c.insert.new.self known.0 same.1
          ∙ c.spot_for.ensures.same,
    )) c.insert.ensures.err
