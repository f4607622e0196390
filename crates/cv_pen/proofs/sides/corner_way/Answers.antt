use Rattle.std.proofs.Common.{◌≡◌, ◌∙◌, ap, ◌^◌, ◌*ℤ◌, w64, FitsSigned, arith, rules}
use mir.Syntax.{w128}
use Rattle.std.proofs.lemmas.Int.{ints, to_z-of_z}
use Rattle.cv_geom.proofs.ProductLemmas.{abs-mul-le}
use Rattle.cv_pen.proofs.sides.corner_way.Goals as goal

pub returns-clause-bound : goal.returns-clause-bound
returns-clause-bound c =
    let length : FitsSigned w64 c.length.result = search rules in
    let length_is = to_z-of_z w64 c.length.result length in
    let r_is = to_z-of_z w64 c.args.r c.ranges.r in
    let least = c.requires.0 in
    let most = c.requires.1 in
    let bound = abs-mul-le c.args.r c.length.result (2 ^ 60) (2 ^ 53) (omega (arith, ints)) c.length.ensures.bound in
    let value : c.product.result ≡ c.args.r *ℤ c.length.result = cc in
    omega (arith, ints)

pub returns-clause-value : goal.returns-clause-value
returns-clause-value c =
    let product : FitsSigned w128 c.product.result = search rules in
    let length : FitsSigned w64 c.length.result = search rules in
    let across : FitsSigned w64 c.distance.result = search rules in
    let up : FitsSigned w64 c.distance-2.result = search rules in
    let product_is = to_z-of_z w128 c.product.result product in
    let length_is = to_z-of_z w64 c.length.result length in
    let across_is = to_z-of_z w64 c.distance.result across in
    let up_is = to_z-of_z w64 c.distance-2.result up in
    let r_is = to_z-of_z w64 c.args.r c.ranges.r in
    let value = rw (r_is, length_is) at c.product.ensures in
    let long = rw (across_is, up_is, c.distance.ensures.value, c.distance-2.ensures.value) at c.length.ensures.value in
    let low_x : FitsSigned w64 c.low.inside.x = search rules in
    let low_y : FitsSigned w64 c.low.inside.y = search rules in
    let high_x : FitsSigned w64 c.high.inside.x = search rules in
    let high_y : FitsSigned w64 c.high.inside.y = search rules in
    let plain = rw (
      to_z-of_z w64 c.low.inside.x low_x,
      to_z-of_z w64 c.low.inside.y low_y,
      to_z-of_z w64 c.high.inside.x high_x,
      to_z-of_z w64 c.high.inside.y high_y,
    ) at long in
    rw (← c.low.view_is, ← c.high.view_is) (product_is ∙ value ∙ ap (λ z. c.args.r *ℤ z) plain)
