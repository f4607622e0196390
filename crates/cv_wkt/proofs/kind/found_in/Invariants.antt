-- The entries that are left give the answer of the whole table.
use Rattle.std.proofs.Common.{◌≡◌, drop, map}
use Rattle.cv_wkt.specs.Kind.{found_in}
use Rattle.cv_wkt.proofs.kind.found_in.Given as goal

abbrev pub invariant-loop-entry : goal.invariant-loop-entry
invariant-loop-entry g l =
    found_in (map (λ entry. (entry.0.now, entry.1)) (drop l.entry-index l.table)) l.bytes
    ≡ found_in (map (λ entry. (entry.0.now, entry.1)) l.table) l.bytes
