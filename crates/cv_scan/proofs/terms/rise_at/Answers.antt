use Rattle.std.proofs.Common.{◌≡◌, ◌^◌, ◌*ℤ◌, w64, FitsSigned, arith, rules}
use Rattle.std.proofs.lemmas.Int.{ints, to_z-of_z}
use Rattle.cv_geom.proofs.ProductLemmas.{abs-mul-le}
use Rattle.cv_scan.proofs.terms.rise_at.Goals as goal

pub returns-clause-bound : goal.returns-clause-bound
returns-clause-bound c =
    let first : FitsSigned w64 c.distance.result = search rules in
    let second : FitsSigned w64 c.distance_to.result = search rules in
    let first_is = to_z-of_z w64 c.distance.result first in
    let second_is = to_z-of_z w64 c.distance_to.result second in
    let bound = abs-mul-le c.distance.result c.distance_to.result (2 ^ 52) (2 ^ 53) c.distance.ensures.bound c.distance_to.ensures.bound in
    let value : c.product.result ≡ c.distance.result *ℤ c.distance_to.result = cc in
    omega (arith, ints)
