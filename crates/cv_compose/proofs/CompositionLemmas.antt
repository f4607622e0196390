-- A composition, pixel by pixel and run by run.
use Rattle.std.proofs.Common.{◌≡◌, ℕ, ◌+◌, ◌-◌, ◌*◌, ◌<◌, ◌≤◌, List, ◌∷◌, [], ◌++◌, length, get_or, take, drop, map, arith, ap, sym}
use Rattle.std.proofs.Common.{◌∙◌, refl, Option, Some, None, zip, zero, suc, replicate}
use Rattle.std.specs.List.{AllZip, between, flat_map, range_with_len, filter_map}
use Rattle.std.proofs.lemmas.List.{take-take, take-append-drop, take_all, take-replicate, drop-replicate}
use Rattle.std.proofs.lemmas.List.{replicate-append-replicate, length-append, length-map}
use Rattle.std.proofs.lemmas.List.FromFn.{length-range_with_len}
use Rattle.std.proofs.lemmas.List.{append-nil, length-take-le, length-drop, take_at, drop_all}
use Rattle.std.proofs.lemmas.List.Edits.{length-between}
use Rattle.std.proofs.lemmas.Slice.{between_is, drop-append-drop}
use Rattle.cv_model.specs.declared.blend.Blend.{Blend}
use Rattle.cv_model.specs.declared.colour.Rgb.{Rgb}
use Rattle.cv_model.specs.declared.colour.Rgba.{Rgba}
use Rattle.cv_model.specs.Blends.{merge, merged}
use Rattle.cv_model.specs.Paintings.{Painting, SlotFrame, Composition, composed, composed_at, merged_painting}
use Rattle.cv_model.specs.Pictures.{pixel}
use Rattle.cv_model.specs.Views.{PixelGrid}
use Rattle.cv_model.specs.Rasters.{Raster, pixels_of, row_of}
use Rattle.cv_compose.specs.Inputs.{IsComposition, IsSlotPainting}
use Rattle.cv_compose.specs.Planes.{colours}
use Rattle.cv_compose.specs.Runs.{merged_run, run_of, merged_slot, merged_slots, HasPixels}
use Rattle.cv_model.proofs.Rows.{length_pixels}
use Rattle.cv_compose.proofs.PlaneLemmas.{drop_more}

-- the slots from k on, merged, begin with that at k
pub slots_step : (start end : ℕ) (below after : List Rgb) (slots : List SlotFrame) (paintings : List (Option Painting)) (k : ℕ)
    (slot : SlotFrame) (painting : Option Painting)
    → k < length slots → k < length paintings → slot ≡ get_or slots k slot → painting ≡ get_or paintings k painting
    → after ≡ merged_slot start end below (slot, painting)
    → merged_slots start end after (drop (k + 1) slots) (drop (k + 1) paintings)
    ≡ merged_slots start end below (drop k slots) (drop k paintings)
slots_step start end below after slots paintings k slot painting s p slot_is painting_is after_is =
    rw (drop_more slots k slot s, drop_more paintings k painting p, sym slot_is, sym painting_is, after_is) refl

-- ---- runs of what is merged

-- the first pixels are merged from the first ones
merged_take : (opacity : ℕ) (mode : Blend) (n : ℕ) (below : List Rgb) (source : List Rgba)
    → merged_run opacity mode (take n below) (take n source) ≡ take n (merged_run opacity mode below source)
merged_take opacity mode zero below source = refl
merged_take opacity mode (suc n) [] source = refl
merged_take opacity mode (suc n) (cb ∷ below) [] = refl
merged_take opacity mode (suc n) (cb ∷ below) (s ∷ source) =
    ap (λ rest. merge cb s opacity mode ∷ rest) (merged_take opacity mode n below source)

-- nothing is merged where there is no source
merged_nothing : (opacity : ℕ) (mode : Blend) (below : List Rgb) → merged_run opacity mode below [] ≡ []
merged_nothing opacity mode [] = refl
merged_nothing opacity mode (cb ∷ below) = refl

-- and those behind them from those behind them
merged_drop : (opacity : ℕ) (mode : Blend) (n : ℕ) (below : List Rgb) (source : List Rgba)
    → merged_run opacity mode (drop n below) (drop n source) ≡ drop n (merged_run opacity mode below source)
merged_drop opacity mode zero below source = refl
merged_drop opacity mode (suc n) [] source = refl
merged_drop opacity mode (suc n) (cb ∷ below) [] = merged_nothing opacity mode (drop n below)
merged_drop opacity mode (suc n) (cb ∷ below) (s ∷ source) = merged_drop opacity mode n below source

-- so a run is merged from the runs
merged_between : (opacity : ℕ) (mode : Blend) (start end : ℕ) (below : List Rgb) (source : List Rgba)
    → merged_run opacity mode (between start end below) (between start end source)
    ≡ between start end (merged_run opacity mode below source)
merged_between opacity mode start end below source =
    rw (between_is below start end, between_is source start end, between_is (merged_run opacity mode below source) start end)
    (merged_drop opacity mode start (take end below) (take end source)
    ∙ ap (drop start) (merged_take opacity mode end below source))

-- ---- what is merged of rows

merged_append : (opacity : ℕ) (mode : Blend) (xs more : List Rgb) (ys others : List Rgba) → length xs ≡ length ys
    → merged_run opacity mode (xs ++ more) (ys ++ others)
    ≡ merged_run opacity mode xs ys ++ merged_run opacity mode more others
merged_append opacity mode [] more [] others same = refl
merged_append opacity mode [] more (y ∷ ys) others same = absurd (omega arith)
merged_append opacity mode (x ∷ xs) more [] others same = absurd (omega arith)
merged_append opacity mode (x ∷ xs) more (y ∷ ys) others same =
    ap (λ rest. merge x y opacity mode ∷ rest) (merged_append opacity mode xs more ys others (omega arith))

merged_map : (opacity : ℕ) (mode : Blend) (f : ℕ → Rgb) (g : ℕ → Rgba) (columns : List ℕ)
    → merged_run opacity mode (map f columns) (map g columns) ≡ map (λ i. merge (f i) (g i) opacity mode) columns
merged_map opacity mode f g [] = refl
merged_map opacity mode f g (i ∷ columns) =
    ap (λ rest. merge (f i) (g i) opacity mode ∷ rest) (merged_map opacity mode f g columns)

merged_rows : (opacity : ℕ) (mode : Blend) (w : ℕ) (f : ℕ → ℕ → Rgb) (g : ℕ → ℕ → Rgba) (rows : List ℕ)
    → merged_run opacity mode (flat_map (row_of w f) rows) (flat_map (row_of w g) rows)
    ≡ flat_map (row_of w (λ i j. merge (f i j) (g i j) opacity mode)) rows
merged_rows opacity mode w f g [] = refl
merged_rows opacity mode w f g (j ∷ rows) =
    let same : length (row_of w f j) ≡ length (row_of w g j) =
    length-map (range_with_len 0 w) (λ i. f i j) ∙ sym (length-map (range_with_len 0 w) (λ i. g i j)) in
    merged_append opacity mode (row_of w f j) (flat_map (row_of w f) rows) (row_of w g j) (flat_map (row_of w g) rows) same
    ∙ ap (λ row. row ++ merged_run opacity mode (flat_map (row_of w f) rows) (flat_map (row_of w g) rows))
    (merged_map opacity mode (λ i. f i j) (λ i. g i j) (range_with_len 0 w))
    ∙ ap (λ rest. row_of w (λ i j. merge (f i j) (g i j) opacity mode) j ++ rest) (merged_rows opacity mode w f g rows)

-- an image is merged pixel by pixel
merged_pixels : (opacity : ℕ) (mode : Blend) (w h : ℕ) (f : ℕ → ℕ → Rgb) (g : ℕ → ℕ → Rgba)
    → merged_run opacity mode (pixels_of w h f) (pixels_of w h g)
    ≡ pixels_of w h (λ i j. merge (f i j) (g i j) opacity mode)
unfolding pixels_of
merged_pixels opacity mode w h f g = merged_rows opacity mode w f g (range_with_len 0 h)

-- ---- the slots

-- a painting at a view has the view's size
run_at : (view : PixelGrid) (w h start end : ℕ) → w ≡ view.w → h ≡ view.h → (p : Painting) → p.view ≡ view
    → run_of start end p ≡ between start end (pixels_of w h (pixel p.input.parts p.view))
run_at view w h start end wide high p at =
    let width : p.view.w ≡ w = ap (λ (v : PixelGrid). v.w) at ∙ sym wide in
    let height : p.view.h ≡ h = ap (λ (v : PixelGrid). v.h) at ∙ sym high in
    ap (λ n. between start end (pixels_of n p.view.h (pixel p.input.parts p.view))) width
    ∙ ap (λ n. between start end (pixels_of w n (pixel p.input.parts p.view))) height

-- the runs of the slots' paintings, merged onto that of an image, are the run of the image with them merged
-- pixel by pixel
slots_composed : (view : PixelGrid) (w h start end : ℕ) → w ≡ view.w → h ≡ view.h → (f : ℕ → ℕ → Rgb)
    (slots : List SlotFrame) (paintings : List (Option Painting)) → AllZip (IsSlotPainting view) slots paintings
    → merged_slots start end (between start end (pixels_of w h f)) slots paintings
    ≡ between start end (pixels_of w h (λ i j. merged (f i j) (filter_map (merged_painting i j) (zip slots paintings))))
slots_composed view w h start end wide high f [] [] each = refl
slots_composed view w h start end wide high f [] (p ∷ paintings) each = absurd each
slots_composed view w h start end wide high f (s ∷ slots) [] each = absurd each
slots_composed view w h start end wide high f (s ∷ slots) (None ∷ paintings) each =
    slots_composed view w h start end wide high f slots paintings each.1
slots_composed view w h start end wide high f (s ∷ slots) (Some p ∷ paintings) each =
    let g = pixel p.input.parts p.view in
    ap (λ below. merged_slots start end below slots paintings)
    (ap (merged_run s.opacity s.blend (between start end (pixels_of w h f))) (run_at view w h start end wide high p each.0.1)
    ∙ merged_between s.opacity s.blend start end (pixels_of w h f) (pixels_of w h g)
    ∙ ap (between start end) (merged_pixels s.opacity s.blend w h f g))
    ∙ slots_composed view w h start end wide high (λ i j. merge (f i j) (g i j) s.opacity s.blend) slots paintings each.1

-- a run of the picture is that of the background with the runs of the slots' paintings merged onto it
pub run_composed : (c : Composition) → IsComposition c → (start end : ℕ) → (below : List Rgb)
    → below ≡ between start end (pixels_of c.frame.width c.frame.height (λ i j. c.frame.background))
    → merged_slots start end below c.frame.slots c.paintings ≡ between start end (composed c).pixels
unfolding composed_at
run_composed c kept start end below below_is =
    ap (λ xs. merged_slots start end xs c.frame.slots c.paintings) below_is
    ∙ slots_composed kept.view c.frame.width c.frame.height start end (sym kept.width) (sym kept.height)
    (λ i j. c.frame.background) c.frame.slots c.paintings kept.slots

-- ---- the background

flat_row : (x : Rgb) (columns : List ℕ) → map (λ i. x) columns ≡ replicate (length columns) x
flat_row x [] = refl
flat_row x (i ∷ columns) = ap (λ rest. x ∷ rest) (flat_row x columns)

flat_rows : (x : Rgb) (w : ℕ) (rows : List ℕ) → flat_map (row_of w (λ i j. x)) rows ≡ replicate (w * length rows) x
flat_rows x w [] = ap (λ n. replicate n x) (let e : 0 ≡ w * 0 = omega arith in e)
flat_rows x w (j ∷ rows) =
    let row = flat_row x (range_with_len 0 w) ∙ ap (λ n. replicate n x) (length-range_with_len 0 w) in
    let size : w + w * length rows ≡ w * suc (length rows) = omega arith in
    ap (λ front. front ++ flat_map (row_of w (λ i j. x)) rows) row ∙ ap (λ rest. replicate w x ++ rest) (flat_rows x w rows)
    ∙ replicate-append-replicate w (w * length rows) x ∙ ap (λ n. replicate n x) size

-- a run of an image of one colour
flat_run : (x : Rgb) (w h start end : ℕ) → end ≤ w * h
    → between start end (pixels_of w h (λ i j. x)) ≡ replicate (end - start) x
unfolding pixels_of
flat_run x w h start end within =
    let all = flat_rows x w (range_with_len 0 h) ∙ ap (λ n. replicate (w * n) x) (length-range_with_len 0 h) in
    ap (between start end) all ∙ between_is (replicate (w * h) x) start end
    ∙ ap (drop start) (take-replicate end (w * h) x within) ∙ drop-replicate start end x

flat_colours : (x : Rgb) (n : ℕ) → colours (replicate n x.r) (replicate n x.g) (replicate n x.b) ≡ replicate n x
flat_colours x zero = refl
flat_colours x (suc n) = ap (λ rest. x ∷ rest) (flat_colours x n)

-- the colours of planes that are filled with a colour's channels are a run of the image of that colour
pub background_run : (x : Rgb) (w h start end : ℕ) → end ≤ w * h → (r g b : List ℕ)
    → r ≡ replicate (end - start) x.r → g ≡ replicate (end - start) x.g → b ≡ replicate (end - start) x.b
    → colours r g b ≡ between start end (pixels_of w h (λ i j. x))
background_run x w h start end within r g b red green blue =
    rw (red, green, blue) (flat_colours x (end - start) ∙ sym (flat_run x w h start end within))

-- ---- sizes

-- each painting of a composition has the picture's pixels
pub has_pixels : (view : PixelGrid) (end : ℕ) → end ≤ view.w * view.h → (slots : List SlotFrame)
    (paintings : List (Option Painting)) → AllZip (IsSlotPainting view) slots paintings
    → (k : ℕ) (d : Option Painting) → k < length paintings → HasPixels end (get_or paintings k d)
has_pixels view end within [] [] each k d k_in = absurd (omega arith)
has_pixels view end within [] (p ∷ paintings) each k d k_in = absurd each
has_pixels view end within (s ∷ slots) [] each k d k_in = absurd each
has_pixels view end within (s ∷ slots) (None ∷ paintings) each zero d k_in = tt
has_pixels view end within (s ∷ slots) (Some p ∷ paintings) each zero d k_in = rw each.0.1 within
has_pixels view end within (s ∷ slots) (p ∷ paintings) each (suc k) d k_in =
    has_pixels view end within slots paintings each.1 k d (omega arith)

-- the pixels up to start and the run behind them are those up to the run's end
pub run_more : {A : Type 0} (xs : List A) (start end : ℕ) → start ≤ end → take start xs ++ between start end xs ≡ take end xs
run_more xs start end order =
    ap (λ rest. take start xs ++ rest) (between_is xs start end)
    ∙ ap (λ front. front ++ drop start (take end xs)) (sym (take-take start end xs order))
    ∙ take-append-drop start (take end xs)

-- pixels that are those wanted up to start, with the run behind them written, are those wanted up to its end
pub written_more : {A : Type 0} (all old now run : List A) (start end : ℕ) → start ≤ end → end ≤ length all
    → now ≡ take start all ++ drop start old → run ≡ between start end all
    → take start now ++ run ++ drop (start + length run) now ≡ take end all ++ drop end old
written_more {A = A} all old now run start end order within now_is run_is =
    let front : length (take start all) ≡ start = length-take-le start all (omega (arith, order, within)) in
    let size : length run ≡ end - start = ap length run_is ∙ length-between all start end within in
    let next : start + length run ≡ end = omega (arith, order, size) in
    let first : take start now ≡ take start all =
    ap (take start) now_is ∙ take_at (take start all) (drop start old) start front in
    let behind : drop (start + length run) now ≡ drop end old =
    ap (drop (start + length run)) now_is
    ∙ drop-append-drop start old (take start all) (start + length run) (omega arith) front
    ∙ ap (λ n. drop n old) next in
    ap (λ (xs : List A). xs ++ run ++ drop (start + length run) now) first
    ∙ ap (λ (xs : List A). take start all ++ run ++ xs) behind
    ∙ ap (λ (xs : List A). take start all ++ xs ++ drop end old) run_is
    ∙ ap (λ (xs : List A). xs ++ drop end old) (run_more all start end order)

-- there are as many of them as of those wanted
pub written_length : {A : Type 0} (all old : List A) (start : ℕ) → start ≤ length all → length old ≡ length all
    → length (take start all ++ drop start old) ≡ length all
written_length all old start within same =
    let front = length-take-le start all within in
    let behind = length-drop start old in
    let both = length-append (take start all) (drop start old) in
    omega (arith, front, behind, both, within, same)

-- when no run is left, they are those wanted
pub written_all : {A : Type 0} (all old : List A) (start : ℕ) → length all ≤ start → length old ≡ length all
    → take start all ++ drop start old ≡ all
written_all all old start order same =
    ap (λ xs. take start all ++ xs) (drop_all start old (omega (arith, order, same)))
    ∙ append-nil (take start all) ∙ take_all start all order

-- pictures of one size with the same pixels are the same
pub same_picture : (a b : Raster Rgb) → a.width ≡ b.width → a.height ≡ b.height → a.pixels ≡ b.pixels → a ≡ b
same_picture a b wide high same =
    ap (λ w. record { width = w; height = a.height; pixels = a.pixels }) wide
    ∙ ap (λ h. record { width = b.width; height = h; pixels = a.pixels }) high
    ∙ ap (λ ps. record { width = b.width; height = b.height; pixels = ps }) same

-- a composed picture has width times height pixels
pub length_composed : (c : Composition) → length (composed c).pixels ≡ c.frame.width * c.frame.height
length_composed c = length_pixels c.frame.width c.frame.height (composed_at c)
