use Rattle.cv_chunks.proofs.PartLemmas.{split_same, spot_in_front, spot_in_back}
use Rattle.cv_chunks.proofs.part.spot_before.Goals as goal

pub returns-then-place-long-clause-same : goal.returns-then-place-long-clause-same
returns-then-place-long-clause-same g c =
    let cut = c.in_ok-long.ensures.ok in
    split_same g.P.Part.items g.P.EditedPart.full c.args.parts.now.items c.split_in.new.parts.items
    c.place_of-place.result.part c.in_ok-long.long cut.0 cut.1 cut.2 cut.3

pub returns-then-place-long-clause-ok : goal.returns-then-place-long-clause-ok
returns-then-place-long-clause-ok g c =
    let cut = c.in_ok-long.ensures.ok in
    let was = rw (c.as_slice.ensures.value, cut.3.found) at c.place_of-place.ensures in
    spot_in_front g.P.Part.items g.P.EditedPart.full c.args.parts.now.items c.split_in.new.parts.items
    c.place_of-place.result.part c.in_ok-long.long cut.0 cut.1 cut.2
    c.args.at c.place_of-place.result.within cut.3 was c.if-place-long.true

pub returns-else-place-long-clause-same : goal.returns-else-place-long-clause-same
returns-else-place-long-clause-same g c =
    let cut = c.in_ok-long.ensures.ok in
    split_same g.P.Part.items g.P.EditedPart.full c.args.parts.now.items c.split_in.new.parts.items
    c.place_of-place.result.part c.in_ok-long.long cut.0 cut.1 cut.2 cut.3

pub returns-else-place-long-clause-ok : goal.returns-else-place-long-clause-ok
returns-else-place-long-clause-ok g c =
    let cut = c.in_ok-long.ensures.ok in
    let was = rw (c.as_slice.ensures.value, cut.3.found) at c.place_of-place.ensures in
    spot_in_back g.P.Part.items g.P.EditedPart.full c.args.parts.now.items c.split_in.new.parts.items
    c.place_of-place.result.part c.in_ok-long.long cut.0 cut.1 cut.2
    c.args.at c.place_of-place.result.within cut.3 was c.if-place-long.false
