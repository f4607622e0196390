use Rattle.std.proofs.Common.{◌≡◌, ◌∙◌, ℤ, w64, to_z, of_z, rules}
use Rattle.std.specs.Int.{int_min, int_max}
use Rattle.std.proofs.lemmas.Int.{to_z-of_z}
use Rattle.cv_model.specs.Positions.{IsCoordinate}
use Rattle.cv_layer.proofs.boxes.widened.Goals as goal

-- a coordinate is kept by a 64-bit number
kept : (z : ℤ) → IsCoordinate z → to_z w64 (of_z w64 z) ≡ z
kept z range = to_z-of_z w64 z (search rules)

pub returns : goal.returns
returns c =
    let held = c.held.invariant in
    let point = c.point.invariant in
    let x = kept _ point.x_in in
    let y = kept _ point.y_in in
    rw (← c.held.view_is, ← c.point.view_is)
    (λ i. record {
      xmin = (kept _ c.lesser.ensures.range ∙ c.lesser.ensures.value
          ∙ (λ j. int_min (kept _ held.west_in j) (x j))) i;
      ymin = (kept _ c.lesser-2.ensures.range ∙ c.lesser-2.ensures.value
          ∙ (λ j. int_min (kept _ held.south_in j) (y j))) i;
      xmax = (kept _ c.greater.ensures.range ∙ c.greater.ensures.value
          ∙ (λ j. int_max (kept _ held.east_in j) (x j))) i;
      ymax = (kept _ c.greater-2.ensures.range ∙ c.greater-2.ensures.value
          ∙ (λ j. int_max (kept _ held.north_in j) (y j))) i;
    })
