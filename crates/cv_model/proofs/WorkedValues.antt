-- Worked values of the definitions, each by computing it.
use Rattle.std.specs.Prelude.{◌≡◌, ℕ, ◌*◌, true, false, pos, List, [], ◌∷◌, refl}
use Rattle.cv_model.specs.declared.colour.Rgb.{Rgb}
use Rattle.cv_model.specs.declared.colour.Rgba.{Rgba}
use Rattle.cv_model.specs.declared.blend.Blend.TheVariants.{Normal}
use Rattle.cv_model.specs.Positions.{Position}
use Rattle.cv_model.specs.Views.{PixelGrid, centre_of, grid_of}
use Rattle.cv_model.specs.Polygons.{is_inside}
use Rattle.cv_model.specs.Colours.{over, opaque}
use Rattle.cv_model.specs.Blends.{merge}

abbrev rgb : ℕ → ℕ → ℕ → Rgb
rgb r g b = record { r = r; g = g; b = b }

abbrev rgba : ℕ → ℕ → ℕ → ℕ → Rgba
rgba r g b a = record { r = r; g = g; b = b; a = a }

-- a point in whole map units
abbrev at : ℕ → ℕ → Position
at x y = record { x = pos (500000 * x); y = pos (500000 * y) }

-- red at opacity 128 over white
pub red_over_white : merge (rgb 255 255 255) (opaque (rgb 255 0 0)) 128 Normal ≡ rgb 255 127 127
red_over_white = refl

-- a half blue over a half red
pub blue_over_red : over (rgba 0 0 255 128) (rgba 255 0 0 128) ≡ rgba 85 0 170 192
blue_over_red = refl

-- that colour merged over white
pub violet_over_white : merge (rgb 255 255 255) (rgba 85 0 170 192) 255 Normal ≡ rgb 127 63 191
violet_over_white = refl

-- transparent over transparent
pub nothing_over_nothing : over (rgba 1 2 3 0) (rgba 4 5 6 0) ≡ rgba 0 0 0 0
nothing_over_nothing = refl

-- a square of four units by four with a hole that stands on its corner, by half units
abbrev square_with_hole : List (List Position)
square_with_hole =
    (at 0 0 ∷ at 8 0 ∷ at 8 8 ∷ at 0 8 ∷ at 0 0 ∷ [])
    ∷ (at 3 1 ∷ at 5 3 ∷ at 3 5 ∷ at 1 3 ∷ at 3 1 ∷ []) ∷ []

-- the view of those four units by four pixels
abbrev four_by_four : PixelGrid
four_by_four = grid_of (record { xmin = pos 0; ymin = pos 0; xmax = pos 4000000; ymax = pos 4000000 }) 4 4

pub first_pixel_inside : is_inside (centre_of four_by_four 0 0) square_with_hole ≡ true
first_pixel_inside = refl

-- the hole's left corner goes through this centre
pub hole_corner_outside : is_inside (centre_of four_by_four 0 2) square_with_hole ≡ false
hole_corner_outside = refl

-- the hole's right corner goes through this one, which the hole's right border leaves to the polygon
pub hole_right_corner_inside : is_inside (centre_of four_by_four 2 2) square_with_hole ≡ true
hole_right_corner_inside = refl
