-- Planes: the channels of one kind of a run of pixels.
use Rattle.std.specs.Prelude.{ℕ, ◌+◌, ◌*◌, ◌/◌, ◌%◌, ◌<◌, ◌≡◌, List, [], ◌∷◌, length, slice_index}
use Rattle.cv_model.specs.declared.blend.Blend.{Blend}
use Rattle.cv_model.specs.declared.colour.Rgb.{Rgb}
use Rattle.cv_model.specs.declared.colour.Rgba.{Rgba}
use Rattle.cv_model.specs.Blends.{channel_merged}

-- the channels of a pixel
abbrev pub red : Rgba → ℕ
red p = p.r

abbrev pub green : Rgba → ℕ
green p = p.g

abbrev pub blue : Rgba → ℕ
blue p = p.b

abbrev pub alpha : Rgba → ℕ
alpha p = p.a

-- the byte of a word whose lowest bit is worth this
abbrev pub byte_at : ℕ → ℕ → ℕ
byte_at worth word = word / worth % 256

-- the channels of a plane, each merged by f with the source's channel and alpha at its place
abbrev pub merged_plane : (ℕ → ℕ → ℕ → ℕ) → List ℕ → List ℕ → List ℕ → List ℕ
merged_plane f [] source alphas = []
merged_plane f (cb ∷ below) [] alphas = []
merged_plane f (cb ∷ below) (cs ∷ source) [] = []
merged_plane f (cb ∷ below) (cs ∷ source) (a ∷ alphas) = f a cb cs ∷ merged_plane f below source alphas

-- the source's channels, each blended in this mode with that below it, as if all were opaque
abbrev pub blended_plane : Blend → List ℕ → List ℕ → List ℕ
blended_plane mode [] source = []
blended_plane mode (cb ∷ below) [] = []
blended_plane mode (cb ∷ below) (cs ∷ source) = channel_merged mode 255 cb cs ∷ blended_plane mode below source

-- a table has the blended channel of each pair of channels
pub record IsTable (mode : Blend) (answers : List ℕ) : Type 0 where
  pub whole : length answers ≡ 65536
  pub each : (cb cs : ℕ) → cb < 256 → cs < 256 → slice_index answers (256 * cb + cs) ≡ channel_merged mode 255 cb cs

-- the colours of three planes
abbrev pub colours : List ℕ → List ℕ → List ℕ → List Rgb
colours [] g b = []
colours (x ∷ r) [] b = []
colours (x ∷ r) (y ∷ g) [] = []
colours (x ∷ r) (y ∷ g) (z ∷ b) = record { r = x; g = y; b = z } ∷ colours r g b
