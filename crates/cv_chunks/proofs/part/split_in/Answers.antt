use Rattle.std.proofs.Common.{◌≡◌, arith}
use Rattle.std.specs.Prelude.{true}
use Rattle.std.proofs.lemmas.Option.{slice_get_within}
use Rattle.cv_chunks.proofs.PartLemmas.{at_part}
use Rattle.cv_chunks.proofs.part.split_in.Goals as goal

pub overflow_add-at : goal.overflow_add-at
overflow_add-at g c =
    let read = rw c.reserve.ensures.items at c.index_mut-front.ensures.value in
    let known = at_part (λ part. g.P.EditedPart.full part ≡ true) c.args.parts.now.items c.args.at
    c.index_mut-front.result.now c.requires.full read in
    omega (
      arith,
      slice_get_within c.args.parts.now.items c.args.at c.index_mut-front.result.now known.0,
      c.args.parts.now.ok,
      c.args.parts.now.small,
    )

pub insert-requires : goal.insert-requires
insert-requires g c =
    let read = rw c.reserve.ensures.items at c.index_mut-front.ensures.value in
    let known = at_part (λ part. g.P.EditedPart.full part ≡ true) c.args.parts.now.items c.args.at
    c.index_mut-front.result.now c.requires.full read in
    omega (
      arith,
      slice_get_within c.args.parts.now.items c.args.at c.index_mut-front.result.now known.0,
      c.args.parts.now.ok,
      c.reserve.ensures.len,
    )

pub returns-clause-ok : goal.returns-clause-ok
returns-clause-ok g c =
    let read = rw c.reserve.ensures.items at c.index_mut-front.ensures.value in
    let known = at_part (λ part. g.P.EditedPart.full part ≡ true) c.args.parts.now.items c.args.at
    c.index_mut-front.result.now c.requires.full read in (
      c.index_mut-front.result.now,
      c.split.new.self,
      c.in_ok-back.back,
      record {
        found = known.0;
        parts = rw c.reserve.ensures.items at c.in-Ok.ensures.items;
        same = c.in_ok-back.ensures.ok;
        front_long = c.len-long.ensures;
        front_not_full = c.in_ok-back.ensures.not_full.0;
        back_not_full = c.in_ok-back.ensures.not_full.1;
      },
    )
