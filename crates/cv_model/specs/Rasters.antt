-- Rasters: rows of pixels from the top, and the bytes of a picture.
use Rattle.std.specs.Prelude.{ℕ, ◌≡◌, ◌*◌, List, [], ◌∷◌, ◌++◌, length, map}
use Rattle.std.specs.List.{flat_map, range_with_len}
use Rattle.std.specs.Fmt.{decimal}
use Rattle.cv_model.specs.declared.colour.Rgb.{Rgb}

-- a size in pixels, and the pixels row by row from the top
pub record Raster (A : Type 0) : Type 0 where
  pub width : ℕ
  pub height : ℕ
  pub pixels : List A

-- there are as many pixels as width times height
abbrev pub IsRaster : {A : Type 0} → Raster A → Type 0
IsRaster image = length image.pixels ≡ image.width * image.height

-- the pixels of row j
abbrev pub row_of : {A : Type 0} → ℕ → (ℕ → ℕ → A) → ℕ → List A
row_of w f j = map (λ i. f i j) (range_with_len 0 w)

-- the pixels of h rows of w, each given by its column and its row
unfoldable pub pixels_of : {A : Type 0} → ℕ → ℕ → (ℕ → ℕ → A) → List A
pixels_of w h f = flat_map (row_of w f) (range_with_len 0 h)

-- the three bytes of a pixel
abbrev pub pixel_bytes : Rgb → List ℕ
pixel_bytes c = c.r ∷ c.g ∷ c.b ∷ []

-- what stands in front of the pixels: `P6`, the size and the greatest value 255
abbrev pub ppm_header : ℕ → ℕ → List ℕ
ppm_header width height =
    (80 ∷ 54 ∷ 10 ∷ []) ++ (decimal width ++ ((32 ∷ []) ++ (decimal height ++ (10 ∷ 50 ∷ 53 ∷ 53 ∷ 10 ∷ []))))

-- the bytes of a picture in the portable pixmap format, its form P6 (the Netpbm project's PPM)
unfoldable pub ppm_of : Raster Rgb → List ℕ
ppm_of image = ppm_header image.width image.height ++ flat_map pixel_bytes image.pixels
