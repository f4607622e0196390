-- Pixels of a layer, from what lies on a canvas and what a mask shows.
use Rattle.std.proofs.Common.{◌≡◌, ℕ, zero, suc, ◌+◌, ◌<◌, ◌≤◌, Bool, List, ◌∷◌, ◌++◌, map, Option, None, refl, ap, subst, ◌∙◌, arith}
use Rattle.std.specs.List.{flat_map, range_with_len, list_any}
use Rattle.std.proofs.Common.{false, ◌||◌}
use Rattle.cv_model.specs.declared.colour.Rgba.{Rgba}
use Rattle.cv_model.specs.Views.{PixelGrid, centre_of}
use Rattle.cv_model.specs.Colours.{transparent, laid, laid_on}
use Rattle.cv_model.specs.Layers.{Contents, Features, Cells, Core, Parts}
use Rattle.cv_model.specs.Positions.{Position}
use Rattle.cv_model.specs.Grids.{CellGrid}
use Rattle.cv_model.specs.declared.feature.Feature.{Feature}
use Rattle.cv_canvas.specs.Cover.{is_covered_in}
use Rattle.cv_model.specs.Rasters.{Raster, row_of, pixels_of}
use Rattle.cv_model.specs.Pictures.{pixel, painted, is_shown, is_feature_at}
use Rattle.cv_paint.specs.Layings.{Lays, TakesLayer}
use Rattle.cv_paint.specs.Finish.{HasSize, masked, shown, shows_at}
use Rattle.cv_paint.specs.Masks.{IsMask, IsCoverOf, Covers}

-- functions that agree on a range give one list
map_same : {A : Type 0} (f g : ℕ → A) (a n : ℕ) → ((i : ℕ) → a ≤ i → i < a + n → f i ≡ g i)
    → map f (range_with_len a n) ≡ map g (range_with_len a n)
map_same f g a zero same = refl
map_same f g a (suc n) same =
    ap (λ x. x ∷ map f (range_with_len (a + 1) n)) (same a (omega arith) (omega arith))
    ∙ ap (λ xs. g a ∷ xs) (map_same f g (a + 1) n (λ i low high. same i (omega arith) (omega arith)))

-- and so do lists joined
rows_same : {A : Type 0} (f g : ℕ → List A) (a n : ℕ) → ((i : ℕ) → a ≤ i → i < a + n → f i ≡ g i)
    → flat_map f (range_with_len a n) ≡ flat_map g (range_with_len a n)
rows_same f g a zero same = refl
rows_same f g a (suc n) same =
    ap (λ xs. xs ++ flat_map f (range_with_len (a + 1) n)) (same a (omega arith) (omega arith))
    ∙ ap (λ xs. g a ++ xs) (rows_same f g (a + 1) n (λ i low high. same i (omega arith) (omega arith)))

-- pixels that agree give one raster
pub pixels_same : {A : Type 0} (w h : ℕ) (f g : ℕ → ℕ → A) → ((i j : ℕ) → i < w → j < h → f i j ≡ g i j)
    → pixels_of w h f ≡ pixels_of w h g
unfolding pixels_of
pixels_same w h f g same =
    rows_same (row_of w f) (row_of w g) 0 h (λ j low high.
    map_same (λ i. f i j) (λ i. g i j) 0 w (λ i west east. same i j (omega arith) (omega arith)))

-- what is painted of parts that are seen as these, as the mask shows it, is the layer's pixel
pub painted_pixels : (view : PixelGrid) (parts held : Parts) (core : Core) (contents : Contents) (mask : Option (Raster Bool))
    (at : ℕ → ℕ → Rgba) → core ≡ held.own → held ≡ parts → contents ≡ core.contents → IsMask view held.mask mask
    → ((i j : ℕ) → i < view.w → j < view.h → at i j ≡ painted contents parts view (centre_of view i j))
    → pixels_of view.w view.h (masked mask at) ≡ pixels_of view.w view.h (pixel parts view)
unfolding pixel
painted_pixels view parts held core contents mask at own same are is_mask paints =
    let seen : IsMask view parts.mask mask = subst (λ (p : Parts). IsMask view p.mask mask) same is_mask in
    let whole : contents ≡ parts.own.contents =
    are ∙ ap (λ (k : Core). k.contents) (own ∙ ap (λ (p : Parts). p.own) same) in
    pixels_same view.w view.h (masked mask at) (pixel parts view) (λ i j column row.
    ap (λ (b : Bool). shown b (at i j)) (seen.shows_are i j column row)
    ∙ ap (λ (c : Rgba). shown (is_shown (centre_of view i j) parts.mask) c)
    (paints i j column row ∙ ap (λ (k : Contents). painted k parts view (centre_of view i j)) whole))

-- a canvas that takes any colours takes those of any layer
pub takes_any : (parts : Parts) → TakesLayer None parts
takes_any parts feature symbol is = record { fill = λ c e. tt; pen = λ p e. tt; marker = λ m e. tt }

-- what features of a mask layer cover
pub cover_text : (view : PixelGrid) (columns : List (List ℕ)) (features : List Feature) (old new : Raster Bool)
    → HasSize view old → new.width ≡ old.width → new.height ≡ old.height → is_covered_in old ≡ (λ i j. false)
    → Covers view (λ p. list_any (is_feature_at p) features) (is_covered_in old) (is_covered_in new)
    → IsCoverOf view (Features columns features) new
cover_text view columns features old new sized width height clear covers = record {
  sized = record { width = width ∙ sized.width; height = height ∙ sized.height };
  shows_are = λ i j column row.
      covers.at i j column row
      ∙ ap (λ (f : ℕ → ℕ → Bool). f i j || list_any (is_feature_at (centre_of view i j)) features) clear;
}

-- a grid covers nothing
pub cover_grid : (view : PixelGrid) (grid : CellGrid) (old : Raster Bool) → HasSize view old
    → is_covered_in old ≡ (λ i j. false) → IsCoverOf view (Cells grid) old
cover_grid view grid old sized clear = record {
  sized = sized;
  shows_are = λ i j column row. ap (λ (f : ℕ → ℕ → Bool). f i j) clear;
}

-- strokes that are laid on a clear canvas
pub laid_pixels : (view : PixelGrid) (mask : Option (Raster Bool)) (before after : ℕ → ℕ → Rgba)
    (s : Position → List Rgba) → before ≡ (λ i j. transparent) → Lays view s before after
    → pixels_of view.w view.h (masked mask after) ≡ pixels_of view.w view.h (masked mask (λ i j. laid (s (centre_of view i j))))
laid_pixels view mask before after s clear lays =
    pixels_same view.w view.h (masked mask after) (masked mask (λ i j. laid (s (centre_of view i j)))) (λ i j column row.
    ap (λ (c : Rgba). shown (shows_at mask i j) c)
    (lays.at i j column row ∙ ap (λ (f : ℕ → ℕ → Rgba). laid_on (f i j) (s (centre_of view i j))) clear))
