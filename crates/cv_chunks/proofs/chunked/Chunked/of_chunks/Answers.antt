use Rattle.std.proofs.Common.{◌∙◌, ap}
use Rattle.std.specs.List.{flat_map}
use Rattle.cv_chunks.proofs.GroupLemmas.{flat_twice}
use Rattle.cv_chunks.proofs.chunked.Chunked.of_chunks.Goals as goal

pub invariant_of-result : goal.invariant_of-result
invariant_of-result g c =
    rw c.in_ok-root.ensures.ok (rw c.as_slice.ensures.value at c.in_ok-count.ensures)

pub returns : goal.returns
returns g c =
    rw c.in_ok-root.ensures.ok (flat_twice c.in_ok-groups.groups.items
    ∙ ap (flat_map (λ chunk. chunk)) c.in_ok-groups.ensures)
