use Rattle.std.proofs.Common.{ap, ◌∙◌, ◌%◌, ◌==◌}
use Rattle.cv_scan.specs.Held.{held_right}
use Rattle.cv_scan.specs.Planes.{bits_right}
use Rattle.cv_scan.proofs.HeldLemmas.{adds-alike, plane-alone}
use Rattle.cv_scan.proofs.held.put_runs_by_bits.Goals as goal

pub returns : goal.returns
returns c =
    let area = c.args.area in
    let s = c.to_plane.new.scratch in
    let added = rw c.deref.ensures.value at c.in_ok-put_bit_rows.ensures in
    adds-alike (λ i j. bits_right i j area s.bits.items % 2 == 1)
    (λ i j. held_right i j area c.args.scratch.now % 2 == 1) area c.args.into.now c.put_bit_rows.new.into
    (λ i j here.
    ap (λ n. n == 1)
    (plane-alone area c.args.scratch.now s i j here c.in_ok-to_plane.ensures.same
    (c.in_ok-to_plane.ensures.pairs ∙ c.requires.none) c.in_ok-to_plane.ensures.none))
    added
