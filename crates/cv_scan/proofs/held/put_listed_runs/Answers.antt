use Rattle.std.proofs.Common.{◌≡◌, sym, ap, ◌%◌, ◌==◌, length, rules}
use Rattle.cv_scan.specs.Marks.{marks_right}
use Rattle.cv_scan.specs.Held.{held_right}
use Rattle.cv_scan.proofs.HeldLemmas.{adds-alike, list-alone, no-words}
use Rattle.cv_scan.proofs.held.put_listed_runs.Goals as goal

pub returns : goal.returns
returns c =
    let area = c.args.area in
    let s = c.args.scratch.now in
    let zero : length s.bits.items ≡ 0 = search rules in
    let none = no-words s.bits.items zero in
    adds-alike (λ i j. marks_right i j s.marks.items % 2 == 1) (λ i j. held_right i j area s % 2 == 1) area
    c.args.into.now c.put_sorted_runs.new.into
    (λ i j here. ap (λ n. n % 2 == 1) (sym (list-alone area s i j c.requires.none none))) c.in_ok-put_sorted_runs.ensures
