use Rattle.std.proofs.Common.{◌*◌, ◌≤◌, arith}
use Rattle.std.proofs.lemmas.Int.{to_z-of_z}
use Rattle.cv_geom.proofs.ProductLemmas.{scaled}
use Rattle.cv_paint.proofs.windows.reach.Goals as goal

pub returns-clause-value : goal.returns-clause-value
returns-clause-value c =
    let within : 2 * c.args.pixels ≤ 2 * c.args.within = omega arith in
    let bound = scaled (2 * c.args.pixels) (2 * c.args.within) c.args.u within c.requires.side in
    grind (arith, to_z-of_z)

pub returns-clause-low : goal.returns-clause-low
returns-clause-low c =
    let within : 2 * c.args.pixels ≤ 2 * c.args.within = omega arith in
    let bound = scaled (2 * c.args.pixels) (2 * c.args.within) c.args.u within c.requires.side in
    let value = returns-clause-value c in
    rw value bound.0

pub returns-clause-high : goal.returns-clause-high
returns-clause-high c =
    let within : 2 * c.args.pixels ≤ 2 * c.args.within = omega arith in
    let bound = scaled (2 * c.args.pixels) (2 * c.args.within) c.args.u within c.requires.side in
    rw (returns-clause-value c) bound.1
