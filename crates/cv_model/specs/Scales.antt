-- The scales at which a layer is painted.
--
-- Source: this project's own.
use Rattle.std.specs.Prelude.{Bool, true, ◌&&◌, ℤ, pos, ◌≤ℤ◌, int_le, Option, None, IfSome}
use Rattle.std.specs.Option.{option_map_or}

-- the least and the greatest number of millionths of a map unit to a pixel; no bound where one is absent
pub record ScaleBounds : Type 0 where
  pub least : Option ℤ
  pub greatest : Option ℤ

-- from 0 to 10^15 millionths
abbrev pub IsScale : ℤ → Type 0
IsScale z = (pos 0 ≤ℤ z) × (z ≤ℤ pos 1000000000000000)

-- what the scales of a layer keep: each in range, and the least not above the greatest
pub record AreScales (s : ScaleBounds) : Type 0 where
  pub least_in : IfSome s.least IsScale
  pub greatest_in : IfSome s.greatest IsScale
  pub ordered : IfSome s.least (λ least. IfSome s.greatest (λ greatest. least ≤ℤ greatest))

-- no bounds
abbrev pub all_scales : ScaleBounds
all_scales = record { least = None; greatest = None }

-- the bounds hold so many millionths to a pixel
abbrev pub holds_scale : ScaleBounds → ℤ → Bool
holds_scale s u =
    option_map_or (λ least. int_le least u) s.least true
    && option_map_or (λ greatest. int_le u greatest) s.greatest true
