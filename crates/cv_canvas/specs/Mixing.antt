-- A colour over an opaque one: what source-over gives there, with one division by 255 a channel.
--
-- Source: W3C Compositing and Blending Level 1 (source-over over an opaque backdrop), in whole numbers; each
-- division rounds to the nearest.
use Rattle.std.specs.Prelude.{ℕ, ◌+◌, ◌-◌, ◌*◌, ◌==◌, Bool}
use Rattle.cv_number.specs.Rounding.{rnd}
use Rattle.cv_model.specs.declared.colour.Rgba.{Rgba}

-- a channel cs of alpha sa over a channel cb of an opaque colour
abbrev pub byte_over : ℕ → ℕ → ℕ → ℕ
byte_over sa cs cb = rnd (sa * cs + (255 - sa) * cb) 255

-- a colour over an opaque one
abbrev pub on_opaque : Rgba → Rgba → Rgba
on_opaque s b = record {
  r = byte_over s.a s.r b.r;
  g = byte_over s.a s.g b.g;
  b = byte_over s.a s.b b.b;
  a = byte_over s.a 255 255;
}

-- a pixel has this alpha
abbrev pub has_alpha : ℕ → Rgba → Bool
has_alpha alpha pixel = pixel.a == alpha
