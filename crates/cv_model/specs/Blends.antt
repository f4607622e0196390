-- Blending: a layer's colour merged onto an opaque backdrop.
--
-- Source: W3C Compositing and Blending Level 1 (blending over an opaque backdrop), in whole numbers; each
-- division rounds to the nearest, a half upwards. Channels are 0 to 255: cb is the backdrop's, cs the
-- source's.
use Rattle.std.specs.Prelude.{ℕ, ◌+◌, ◌-◌, ◌*◌, ◌==◌, nat_le, min, max, if◌then◌else◌, List, fold}
use Rattle.cv_number.specs.Rounding.{rnd}
use Rattle.cv_model.specs.declared.colour.Rgb.{Rgb}
use Rattle.cv_model.specs.declared.colour.Rgba.{Rgba}
use Rattle.cv_model.specs.declared.blend.Blend.{Blend}
use Rattle.cv_model.specs.declared.blend.Blend.TheVariants.{Normal, Multiply, Screen, Overlay, Darken}
use Rattle.cv_model.specs.declared.blend.Blend.TheVariants.{Lighten, ColorDodge, ColorBurn, HardLight}
use Rattle.cv_model.specs.declared.blend.Blend.TheVariants.{Difference, Exclusion, Addition}

abbrev pub multiply : ℕ → ℕ → ℕ
multiply cb cs = rnd (cb * cs) 255

-- cb + cs - cb·cs
abbrev pub screen : ℕ → ℕ → ℕ
screen cb cs = rnd (255 * (cb + cs) - cb * cs) 255

-- multiply by twice a source up to the middle, screen by twice what a source has above the middle
abbrev pub hard_light : ℕ → ℕ → ℕ
hard_light cb cs = if nat_le (2 * cs) 255 then multiply cb (2 * cs) else screen cb (2 * cs - 255)

-- the backdrop over the complement of the source
abbrev pub color_dodge : ℕ → ℕ → ℕ
color_dodge cb cs = if cb == 0 then 0 else if cs == 255 then 255 else min 255 (rnd (255 * cb) (255 - cs))

-- the complement of that of the complements
abbrev pub color_burn : ℕ → ℕ → ℕ
color_burn cb cs = if cb == 255 then 255 else if cs == 0 then 0 else 255 - min 255 (rnd (255 * (255 - cb)) cs)

abbrev pub difference : ℕ → ℕ → ℕ
difference cb cs = max cb cs - min cb cs

-- cb + cs - 2·cb·cs
abbrev pub exclusion : ℕ → ℕ → ℕ
exclusion cb cs = rnd (255 * (cb + cs) - 2 * (cb * cs)) 255

-- a channel of effective alpha a, mixed with the backdrop's
abbrev pub mixed : ℕ → ℕ → ℕ → ℕ
mixed a cb c = rnd ((255 - a) * cb + a * c) 255

-- a source's channel of effective alpha a, merged onto a backdrop's; an addition is weighed by the alpha
-- and then capped
abbrev pub channel_merged : Blend → ℕ → ℕ → ℕ → ℕ
channel_merged Normal a cb cs = mixed a cb cs
channel_merged Multiply a cb cs = mixed a cb (multiply cb cs)
channel_merged Screen a cb cs = mixed a cb (screen cb cs)
channel_merged Overlay a cb cs = mixed a cb (hard_light cs cb)
channel_merged Darken a cb cs = mixed a cb (min cb cs)
channel_merged Lighten a cb cs = mixed a cb (max cb cs)
channel_merged ColorDodge a cb cs = mixed a cb (color_dodge cb cs)
channel_merged ColorBurn a cb cs = mixed a cb (color_burn cb cs)
channel_merged HardLight a cb cs = mixed a cb (hard_light cb cs)
channel_merged Difference a cb cs = mixed a cb (difference cb cs)
channel_merged Exclusion a cb cs = mixed a cb (exclusion cb cs)
channel_merged Addition a cb cs = min 255 (cb + rnd (a * cs) 255)

-- the alpha of a layer's colour under the layer's opacity
abbrev pub effective : ℕ → ℕ → ℕ
effective alpha opacity = rnd (alpha * opacity) 255

-- the colour s of a layer with this opacity, merged onto the opaque backdrop cb
abbrev pub merge : Rgb → Rgba → ℕ → Blend → Rgb
merge cb s opacity mode =
    let a = effective s.a opacity in record {
      r = channel_merged mode a cb.r s.r;
      g = channel_merged mode a cb.g s.g;
      b = channel_merged mode a cb.b s.b;
    }

-- the colours of layers, each with its layer's opacity and mode, merged in order onto the one below them
abbrev pub merged : Rgb → List (Rgba × ℕ × Blend) → Rgb
merged below layers = fold (λ cb (x : Rgba × ℕ × Blend). merge cb x.0 x.1 x.2) below layers
