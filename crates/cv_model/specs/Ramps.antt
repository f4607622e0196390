-- Ramps: the colour of a grid's number.
--
-- Source: this project's own; between two stops each channel goes in proportion, rounded to the nearest, a
-- half upwards.
use Rattle.std.specs.Prelude.{ℕ, ◌+◌, ◌*◌, ◌≤◌, Bool, if◌then◌else◌, ℤ, ◌<ℤ◌, int_lt, int_le, List, [], ◌∷◌}
use Rattle.std.specs.Prelude.{length, All, find}
use Rattle.std.specs.Ordering.{int_eq}
use Rattle.std.specs.Option.{option_map_or}
use Rattle.cv_number.specs.Rounding.{rnd}
use Rattle.cv_model.specs.declared.colour.Rgba.{Rgba}
use Rattle.cv_model.specs.declared.grid.Cell.{Cell}
use Rattle.cv_model.specs.declared.grid.Cell.TheVariants.{Value, Void}
use Rattle.cv_model.specs.declared.ramp.Stop.{Stop}
use Rattle.cv_model.specs.declared.ramp.RampKind.{RampKind}
use Rattle.cv_model.specs.declared.ramp.RampKind.TheVariants.{Exact, Discrete, Linear}
use Rattle.cv_model.specs.Positions.{IsCoordinate}
use Rattle.cv_model.specs.Views.{rise}
use Rattle.cv_model.specs.Colours.{transparent}

-- how a ramp goes from its stops to a colour, and the stops
pub record RampParts : Type 0 where
  pub kind : RampKind
  pub stops : List Stop

-- each stop's value is above the one before it
abbrev pub Ascends : List Stop → Type 0
Ascends [] = Unit {0}
Ascends (a ∷ []) = Unit {0}
Ascends (a ∷ b ∷ rest) = (a.value <ℤ b.value) × Ascends (b ∷ rest)

-- what a ramp keeps: 1 to 256 stops whose values are in range and ascend strictly
pub record IsRamp (r : RampParts) : Type 0 where
  pub least : 1 ≤ length r.stops
  pub most : length r.stops ≤ 256
  pub in_range : All (λ s. IsCoordinate s.value) r.stops
  pub ascends : Ascends r.stops

-- the colour of the first stop that passes a test, else transparent
abbrev pub first_colour : (Stop → Bool) → List Stop → Rgba
first_colour test stops = option_map_or (λ s. s.colour) (find test stops) transparent

-- the value of a stop is v
abbrev pub is_at : ℤ → Stop → Bool
is_at v s = int_eq s.value v

-- v isn't above the value of a stop
abbrev pub reaches : ℤ → Stop → Bool
reaches v s = int_le v s.value

-- a channel between two stops: in proportion to the distances from the upper one, for c0, and the lower
-- one, for c1
abbrev pub channel_between : ℕ → ℕ → ℕ → ℕ → ℕ
channel_between below above c0 c1 = rnd (c0 * above + c1 * below) (below + above)

-- the colour between two stops
abbrev pub colour_between : Stop → Stop → ℤ → Rgba
colour_between a b v =
    let below = rise a.value v in let above = rise v b.value in record {
      r = channel_between below above a.colour.r b.colour.r;
      g = channel_between below above a.colour.g b.colour.g;
      b = channel_between below above a.colour.b b.colour.b;
      a = channel_between below above a.colour.a b.colour.a;
    }

-- the colour behind a stop: between it and the next one, and that of the last from the last on
abbrev pub linear_from : Stop → List Stop → ℤ → Rgba
linear_from a [] v = a.colour
linear_from a (b ∷ rest) v = if int_lt v b.value then colour_between a b v else linear_from b rest v

-- the first colour below the first stop, and behind it the colour between its neighbours
abbrev pub linear : List Stop → ℤ → Rgba
linear [] v = transparent
linear (a ∷ rest) v = if int_lt v a.value then a.colour else linear_from a rest v

-- the colour of a number
abbrev pub colour_by : RampKind → List Stop → ℤ → Rgba
colour_by Exact stops v = first_colour (is_at v) stops
colour_by Discrete stops v = first_colour (reaches v) stops
colour_by Linear stops v = linear stops v

-- the colour of a cell: transparent without data
unfoldable pub ramp_of : RampParts → Cell → Rgba
ramp_of ramp (Value v) = colour_by ramp.kind ramp.stops v
ramp_of ramp Void = transparent
