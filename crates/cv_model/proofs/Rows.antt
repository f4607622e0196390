-- Rows and rasters grow by one pixel and by one row.
use Rattle.std.proofs.Common.{◌≡◌, ℕ, ◌+◌, ◌*◌, List, [], ◌∷◌, ◌++◌, length, ap, sym, ◌∙◌, arith, zero-add}
use Rattle.std.specs.List.{flat_map, range_with_len}
use Rattle.std.proofs.lemmas.List.{map-id, length-append, append-nil}
use Rattle.std.proofs.lemmas.List.FromFn.{map-range_with_len_more, length-map-range_with_len}
use Rattle.std.proofs.lemmas.List.FromFn.{length-range_with_len}
use Rattle.std.proofs.lemmas.Grind.{flat_map-append}
use Rattle.cv_model.specs.Rasters.{row_of, pixels_of}

-- a range has one number more at its end
range_more : (n : ℕ) → range_with_len 0 (n + 1) ≡ range_with_len 0 n ++ n ∷ []
range_more n =
    sym (map-id (range_with_len 0 (n + 1))) ∙ map-range_with_len_more (λ x. x) 0 n n (zero-add n)
    ∙ ap (λ xs. xs ++ n ∷ []) (map-id (range_with_len 0 n))

-- a row has one pixel more at its end
pub row_more : {A : Type 0} (w : ℕ) (f : ℕ → ℕ → A) (j : ℕ) → row_of (w + 1) f j ≡ row_of w f j ++ f w j ∷ []
row_more w f j = map-range_with_len_more (λ i. f i j) 0 w w (zero-add w)

-- a raster has one row more at its end
pub pixels_more : {A : Type 0} (w h : ℕ) (f : ℕ → ℕ → A) → pixels_of w (h + 1) f ≡ pixels_of w h f ++
    row_of w f h
unfolding pixels_of
pixels_more w h f =
    ap (flat_map (row_of w f)) (range_more h) ∙ flat_map-append (row_of w f) (range_with_len 0 h) (h ∷ [])
    ∙ ap (λ rest. flat_map (row_of w f) (range_with_len 0 h) ++ rest) (append-nil (row_of w f h))

-- the rows of any numbers have w pixels each
length_rows : {A : Type 0} (w : ℕ) (f : ℕ → ℕ → A) (js : List ℕ)
    → length (flat_map (row_of w f) js) ≡ w * length js
length_rows w f [] = omega arith
length_rows w f (j ∷ js) =
    omega (
      arith,
      length-append (row_of w f j) (flat_map (row_of w f) js),
      length-map-range_with_len (λ i.
          f i j) 0 w,
      length_rows w f js,
    )

-- a raster has as many pixels as width times height
pub length_pixels : {A : Type 0} (w h : ℕ) (f : ℕ → ℕ → A) → length (pixels_of w h f) ≡ w * h
unfolding pixels_of
length_pixels w h f = length_rows w f (range_with_len 0 h) ∙ ap (λ n. w * n) (length-range_with_len 0 h)
