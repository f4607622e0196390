-- The centres of a row.
use Rattle.std.proofs.Common.{ℕ, ◌+◌, ◌*◌, ◌≤◌, pos, ◌≤ℤ◌, arith}
use Rattle.std.proofs.lemmas.Int.{ints}
use Rattle.cv_model.specs.Views.{PixelGrid, centre_of}
use Rattle.cv_geom.proofs.ProductLemmas.{mul-le-mulZ}

-- centres ascend from left to right
pub centres-rise :
    (v : PixelGrid) (i k j : ℕ) → pos 1 ≤ℤ v.u → i ≤ k → (centre_of v i j).x ≤ℤ (centre_of v k j).x
centres-rise v i k j unit less =
    let step : pos (2 * i + 1) ≤ℤ pos (2 * k + 1) = omega (arith, ints) in
    let wide = mul-le-mulZ (pos (2 * i + 1)) (pos (2 * k + 1)) v.u step (omega (arith, ints)) in
    omega (arith, ints)
