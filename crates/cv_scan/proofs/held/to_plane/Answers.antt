use Rattle.std.proofs.Common.{refl}
use Rattle.cv_scan.proofs.HeldLemmas.{list-emptied}
use Rattle.cv_scan.proofs.held.to_plane.Goals as goal

pub returns-clause-same : goal.returns-clause-same
returns-clause-same c =
    let changed = rw c.deref.ensures.value at c.toggle_all.ensures in
    let s = c.args.scratch.now in
    list-emptied c.args.area s
    (record { first = s.first; pairs = s.pairs; marks = c.clear.new.self; bits = c.toggle_all.new.bits })
    c.have_plane.new.bits.items c.requires.held.pairs c.in_ok-have_plane.ensures.same changed c.clear.ensures.items refl refl
