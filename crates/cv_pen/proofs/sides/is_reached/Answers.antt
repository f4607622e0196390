use Rattle.std.proofs.Common.{◌≡◌, ◌∙◌, sym, true, ◌-ℤ◌, int_le, w64, FitsSigned, rules}
use mir.Syntax.{w128}
use Rattle.std.specs.Int.{int_max}
use Rattle.std.proofs.lemmas.Int.{to_z-of_z}
use Rattle.cv_model.specs.Positions.{doubled}
use Rattle.cv_pen.proofs.SideLemmas.{run-reached}
use Rattle.cv_pen.proofs.sides.is_reached.Goals as goal

pub returns-then-is_by : goal.returns-then-is_by
returns-then-is_by c =
    let a = doubled c.args.low in
    let b = doubled c.args.high in
    let run : FitsSigned w128 c.run_at.result = search rules in
    let run_is = to_z-of_z w128 c.run_at.result run in
    let most_is = to_z-of_z w128 c.args.most c.ranges.most in
    let r_is = to_z-of_z w64 c.args.r c.ranges.r in
    let by = rw r_is at c.is_by.ensures in
    let there : int_le (c.args.p.x -ℤ c.args.r) (int_max a.x b.x) ≡ true = sym by ∙ c.if-is_by.true in
    let line = run-reached a b c.args.p c.args.r c.run_at.result c.args.most c.run_at.ensures c.requires.most in
    rw (run_is, most_is, there) line
