use Rattle.cv_chunks.proofs.PartLemmas.{at_part, run_at_place}
use Rattle.cv_chunks.specs.Parts.{IsWithin}
use Rattle.cv_chunks.proofs.part.run_in.Goals as goal

pub returns : goal.returns
returns g c =
    let items = g.P.Part.items in
    let place = c.place_of-place.result in
    let part = c.index-parts-place.result in
    let known = at_part (IsWithin items c.args.parts.now c.args.at place.part place.within)
    c.args.parts.now place.part part c.place_of-place.ensures c.index-parts-place.is in
    run_at_place items c.args.parts.now c.args.at place.part place.within part c.run_from.result.now
    known.1 c.run_from.ensures
