-- Colours: one laid over another.
--
-- Source: W3C Compositing and Blending Level 1 (source-over), in whole numbers; each division rounds to the
-- nearest, a half upwards.
use Rattle.std.specs.Prelude.{ℕ, ◌+◌, ◌-◌, ◌*◌, ◌==◌, if◌then◌else◌, List, fold}
use Rattle.cv_model.specs.declared.colour.Rgb.{Rgb}
use Rattle.cv_model.specs.declared.colour.Rgba.{Rgba}
use Rattle.cv_number.specs.Rounding.{rnd}

abbrev pub transparent : Rgba
transparent = record { r = 0; g = 0; b = 0; a = 0 }

-- the colour that covers all below it
abbrev pub opaque : Rgb → Rgba
opaque c = record { r = c.r; g = c.g; b = c.b; a = 255 }

-- 255 times the alpha of a source over a backdrop
abbrev pub covered : ℕ → ℕ → ℕ
covered source backdrop = 255 * source + backdrop * (255 - source)

-- a channel cs of alpha sa over a channel cb of alpha ba
abbrev pub channel_over : ℕ → ℕ → ℕ → ℕ → ℕ
channel_over sa cs ba cb = rnd (255 * sa * cs + ba * (255 - sa) * cb) (covered sa ba)

-- the colour s over the colour b
abbrev pub over : Rgba → Rgba → Rgba
over s b =
    if covered s.a b.a == 0
    then transparent
    else record {
      r = channel_over s.a s.r b.a b.r;
      g = channel_over s.a s.g b.a b.g;
      b = channel_over s.a s.b b.a b.b;
      a = rnd (covered s.a b.a) 255;
    }

-- these colours in order, each laid over what lies below it
abbrev pub laid_on : Rgba → List Rgba → Rgba
laid_on below colours = fold (λ backdrop colour. over colour backdrop) below colours

-- these colours in order, over nothing
abbrev pub laid : List Rgba → Rgba
laid colours = laid_on transparent colours
