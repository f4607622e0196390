use Rattle.std.proofs.Common.{◌≡◌, ◌∙◌, sym, false, not, ◌+ℤ◌, int_le, w64, FitsSigned, rules}
use mir.Syntax.{w128}
use Rattle.std.specs.Int.{int_min}
use Rattle.std.proofs.lemmas.Int.{to_z-of_z}
use Rattle.cv_model.specs.Positions.{doubled}
use Rattle.cv_pen.proofs.SideLemmas.{run-before}
use Rattle.cv_pen.proofs.sides.is_before.Goals as goal

pub returns-else-is_west : goal.returns-else-is_west
returns-else-is_west c =
    let a = doubled c.args.low in
    let b = doubled c.args.high in
    let run : FitsSigned w128 c.run_at.result = search rules in
    let run_is = to_z-of_z w128 c.run_at.result run in
    let least_is = to_z-of_z w128 c.args.least c.ranges.least in
    let r_is = to_z-of_z w64 c.args.r c.ranges.r in
    let west = rw r_is at c.is_west.ensures in
    let free : not (int_le (int_min a.x b.x) (c.args.p.x +ℤ c.args.r)) ≡ false = sym west ∙ c.if-is_west.false in
    let line = run-before a b c.args.p c.args.r c.run_at.result c.args.least c.run_at.ensures c.requires.least in
    rw (run_is, least_is, free) line
