use Rattle.std.proofs.Common.{◌≡◌, ◌/◌, ◌%◌, ◌==◌, true, false, arith}
use Rattle.std.proofs.lemmas.Bool.Decides.{nat_tests}
use Rattle.cv_canvas.proofs.BitLemmas.{taken, taken_from_all}
use Rattle.cv_canvas.proofs.bits.first_ones.Goals.{then-from-end, else-from-end}
use Rattle.cv_canvas.proofs.bits.first_ones.Goals as goal

pub returns : goal.returns
returns c =
    elim c.if-from-end.branch [
      | then-from-end w ↦
          let t : (c.args.from / 64 == c.args.end / 64) ≡ true = grind (arith, nat_tests) in
          rw (w.top-is, t) (taken (c.args.from % 64) (c.args.end % 64) (omega arith) (omega arith))
      | else-from-end w ↦
          let t : (c.args.from / 64 == c.args.end / 64) ≡ false = grind (arith, nat_tests) in
          rw (w.top-is, t) (taken_from_all (c.args.from % 64) (omega arith))
    ]
