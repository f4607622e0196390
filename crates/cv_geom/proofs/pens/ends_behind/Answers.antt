use Rattle.std.proofs.Common.{◌≡◌, pos, ◌-ℤ◌, ◌*ℤ◌, to_z, of_z, w64, arith}
use Rattle.std.specs.Int.{int_max}
use Rattle.std.proofs.lemmas.Int.{ints, clamps}
use Rattle.cv_geom.proofs.pens.ends_behind.Goals as goal

pub returns : goal.returns
returns c =
    let a_in = c.requires.a_in in
    let b_in = c.requires.b_in in
    let p_in = c.requires.p_in in
    let r_in = c.requires.r_in in
    let value = c.max.ensures.value in
    let start : to_z w64 (of_z w64 (to_z w64 (of_z w64 c.args.p) -ℤ to_z w64 (of_z w64 c.args.r))) ≡ c.args.p -ℤ c.args.r = omega (arith, ints) in
    let end : to_z w64 (of_z w64 c.max.result) ≡ int_max (pos 2 *ℤ c.args.a) (pos 2 *ℤ c.args.b) = omega (arith, ints, clamps) in
    cc
