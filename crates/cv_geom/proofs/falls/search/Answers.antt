use Rattle.std.proofs.Common.{◌≡◌, ◌∙◌, sym, ◌+◌, ◌/◌, ◌≤◌, ◌<◌, true, false, arith}
use Rattle.cv_geom.proofs.FallLemmas.{falls-behind, falls-before}
use Rattle.cv_geom.proofs.falls.search.Goals as goal

pub loop-room-preserved-then-test : goal.loop-room-preserved-then-test
loop-room-preserved-then-test g c =
    let middle = c.loop-room.at + c.loop-room.room / 2 in
    let from : c.args.low ≤ middle = omega arith in
    let below : middle < c.args.high = omega arith in
    record {
      from = omega arith;
      end = omega arith;
      sought = λ p t calls falls.
          let here = calls middle c.test.result from below c.test.ensures in
          let held : p middle ≡ true = sym here ∙ c.if-test.true in
          let behind = falls-behind p c.args.low c.args.high t middle falls from below held in
          let before = c.loop-room.invariant.sought p t calls falls in
          (omega arith, omega arith);
    }

pub loop-room-preserved : goal.loop-room-preserved
loop-room-preserved g c =
    let middle = c.loop-room.at + c.loop-room.room / 2 in
    let from : c.args.low ≤ middle = omega arith in
    let below : middle < c.args.high = omega arith in
    record {
      from = omega arith;
      end = omega arith;
      sought = λ p t calls falls.
          let here = calls middle c.test.result from below c.test.ensures in
          let failed : p middle ≡ false = sym here ∙ c.if-test.false in
          let behind = falls-before p c.args.low c.args.high t middle falls from below failed in
          let before = c.loop-room.invariant.sought p t calls falls in
          (omega arith, omega arith);
    }

pub returns-clause-found : goal.returns-clause-found
returns-clause-found g c = λ p t calls falls.
    let left = c.loop-room.invariant.sought p t (λ k r from below call. calls k r from below call) falls in
    omega arith
