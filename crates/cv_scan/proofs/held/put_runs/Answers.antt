use Rattle.std.proofs.Common.{◌≡◌, sym, ap, ◌%◌, ◌==◌, length, rules}
use Rattle.cv_scan.specs.Pairs.{pairs_right}
use Rattle.cv_scan.specs.Held.{held_right}
use Rattle.cv_scan.proofs.HeldLemmas.{adds-alike, rows-alone, no-words, no-marks}
use Rattle.cv_scan.proofs.held.put_runs.Goals as goal

pub returns : goal.returns
returns c =
    let area = c.args.area in
    let s = c.args.scratch.now in
    let no_marks : length s.marks.items ≡ 0 = search rules in
    let no_words : length s.bits.items ≡ 0 = search rules in
    let added = rw c.deref.ensures.value at c.in_ok-put_pair_runs.ensures in
    adds-alike (λ i j. pairs_right i j s.first s.pairs.items % 2 == 1) (λ i j. held_right i j area s % 2 == 1) area
    c.args.into.now c.put_pair_runs.new.into
    (λ i j here.
    ap (λ n. n % 2 == 1) (sym (rows-alone area s i j (no-marks s.marks.items no_marks) (no-words s.bits.items no_words))))
    added
