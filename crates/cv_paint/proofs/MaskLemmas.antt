-- Runs covered on a raster, and what is seen through a mask.
use Rattle.std.proofs.Common.{◌≡◌, ℕ, ◌+◌, ◌<◌, Bool, true, false, ◌||◌, if◌then◌else◌, List, [], ◌∷◌, ◌++◌, map, take, length}
use Rattle.std.proofs.Common.{get_or, set, zero, suc, refl, ap, sym, subst, ◌∙◌, arith, Option, Some, None}
use Rattle.std.specs.List.{range_with_len, list_any}
use Rattle.std.proofs.Common.{drop}
use Rattle.std.proofs.Math.Seq.{take-add}
use Rattle.std.proofs.lemmas.List.{take_more}
use Rattle.cv_model.specs.declared.feature.Feature.{Feature}
use Rattle.cv_model.specs.declared.colour.Rgba.{Rgba}
use Rattle.cv_model.specs.Positions.{Position}
use Rattle.cv_model.specs.Views.{PixelGrid, centre_of}
use Rattle.cv_model.specs.Rasters.{Raster, row_of}
use Rattle.cv_geom.specs.declared.runs.Run.{Run}
use Rattle.cv_geom.specs.declared.runs.Area.{Area}
use Rattle.cv_geom.specs.Runs.{is_on, is_on_any, AreRunsOf, IsIn}
use Rattle.cv_canvas.specs.Canvas.{changed}
use Rattle.cv_paint.specs.Layings.{whole_of}
use Rattle.cv_paint.specs.Masks.{Covers, with_covered}
use Rattle.cv_canvas.specs.Cover.{is_covered_in}
use Rattle.cv_paint.specs.Finish.{kept, kept_in, shown, masked, IsMaskOf}

-- a pixel is covered after a run, and after others
one_cover : (first rest b : Bool) → ((if first then true else b) || rest) ≡ (b || (first || rest))
one_cover true true true = refl
one_cover true true false = refl
one_cover true false true = refl
one_cover true false false = refl
one_cover false rest b = refl

-- three tests
or_or : (a b c : Bool) → (a || (b || c)) ≡ ((a || b) || c)
or_or true b c = refl
or_or false b c = refl

-- a test or none
or_none : (b : Bool) → b ≡ (b || false)
or_none true = refl
or_none false = refl

-- runs cover their pixels
covered_by : (before : ℕ → ℕ → Bool) (runs : List Run) (i j : ℕ)
    → with_covered before runs i j ≡ (before i j || is_on_any i j runs)
covered_by before [] i j = or_none (before i j)
covered_by before (run ∷ rest) i j =
    covered_by (changed (λ _. true) before run) rest i j
    ∙ one_cover (is_on run i j) (is_on_any i j rest) (before i j)

-- the runs of a test cover where it holds
pub covers_where : (view : PixelGrid) (test : Position → Bool) (before after : ℕ → ℕ → Bool) (area : Area)
    (made runs : List Run) → area ≡ whole_of view → runs ≡ made
    → AreRunsOf (λ i j. test (centre_of view i j)) area made → after ≡ with_covered before runs
    → Covers view test before after
covers_where view test before after area made runs whole held are covered = record {
  at = λ i j column row.
      let inside : IsIn (whole_of view) i j =
      record { west = omega arith; east = column; north = omega arith; south = row } in
      ap (λ (f : ℕ → ℕ → Bool). f i j) covered
      ∙ covered_by before runs i j
      ∙ ap (λ (rs : List Run). before i j || is_on_any i j rs) held
      ∙ ap (λ (on : Bool). before i j || on) (are.covered i j (subst (λ a. IsIn a i j) (sym whole) inside));
}

-- a test that holds at no centre leaves all as it is
pub covers_missed : (view : PixelGrid) (t : Position → Bool) (f : ℕ → ℕ → Bool)
    → ((i j : ℕ) → i < view.w → j < view.h → t (centre_of view i j) ≡ false) → Covers view t f f
covers_missed view t f none = record {
  at = λ i j column row. or_none (f i j) ∙ ap (λ (b : Bool). f i j || b) (sym (none i j column row));
}

-- one pixel more is kept where it is shown
pub kept_more : (cs : List Bool) (xs : List Rgba) (i : ℕ) (d : Bool) (e : Rgba) → i < length cs → i < length xs
    → set (kept (take i cs) xs) i (shown (get_or cs i d) (get_or (kept (take i cs) xs) i e)) ≡ kept (take (suc i) cs) xs
kept_more [] xs i d e in_cs in_xs = absurd (omega arith)
kept_more (c ∷ cs) [] i d e in_cs in_xs = absurd (omega arith)
kept_more (c ∷ cs) (x ∷ xs) zero d e in_cs in_xs = refl
kept_more (c ∷ cs) (x ∷ xs) (suc i) d e in_cs in_xs =
    ap (λ ys. shown c x ∷ ys) (kept_more cs xs i d e (omega arith) (omega arith))

-- the pixels of a list of columns, kept where they are shown
kept_row : (g : ℕ → ℕ → Bool) (f : ℕ → ℕ → Rgba) (j : ℕ) (is : List ℕ)
    → kept (map (λ i. g i j) is) (map (λ i. f i j) is) ≡ map (λ i. shown (g i j) (f i j)) is
kept_row g f j [] = refl
kept_row g f j (i ∷ is) = ap (λ ys. shown (g i j) (f i j) ∷ ys) (kept_row g f j is)

-- a row as a mask keeps it
pub masked_row : (view : PixelGrid) (mask : Option (Raster Bool)) (f : ℕ → ℕ → Rgba) (j : ℕ) → IsMaskOf view mask
    → kept_in mask j (row_of view.w f j) ≡ row_of view.w (masked mask f) j
masked_row view None f j sized = refl
masked_row view (Some cover) f j sized =
    ap (λ n. kept (row_of n (is_covered_in cover) j) (row_of view.w f j)) sized.width
    ∙ kept_row (is_covered_in cover) f j (range_with_len 0 view.w)

-- tests in a list and in another one behind it
any_append : (p : Feature → Bool) (xs ys : List Feature) → list_any p (xs ++ ys) ≡ (list_any p xs || list_any p ys)
any_append p [] ys = refl
any_append p (x ∷ xs) ys =
    ap (λ (b : Bool). p x || b) (any_append p xs ys) ∙ or_or (p x) (list_any p xs) (list_any p ys)

-- a feature alone
any_one : (b : Bool) → (b || false) ≡ b
any_one true = refl
any_one false = refl

-- pixels covered, and then others
covers_both : (view : PixelGrid) (s t : Position → Bool) (before mid after : ℕ → ℕ → Bool) → Covers view s before mid
    → Covers view t mid after → Covers view (λ p. s p || t p) before after
covers_both view s t before mid after first second = record {
  at = λ i j column row.
      second.at i j column row
      ∙ ap (λ (b : Bool). b || t (centre_of view i j)) (first.at i j column row)
      ∙ sym (or_or (before i j) (s (centre_of view i j)) (t (centre_of view i j)));
}

-- the same pixels by another test
covers_same : (view : PixelGrid) (s t : Position → Bool) (before after : ℕ → ℕ → Bool) → ((p : Position) → s p ≡ t p)
    → Covers view s before after → Covers view t before after
covers_same view s t before after same covers = record {
  at = λ i j column row.
      covers.at i j column row ∙ ap (λ (b : Bool). before i j || b) (same (centre_of view i j));
}

-- one feature more is covered
pub covers_more : (view : PixelGrid) (s : Position → Feature → Bool) (rows : List Feature) (i : ℕ) (row : Feature)
    (before mid after : ℕ → ℕ → Bool) → i < length rows → row ≡ get_or rows i row
    → Covers view (λ p. list_any (s p) (take i rows)) before mid → Covers view (λ p. s p row) mid after
    → Covers view (λ p. list_any (s p) (take (i + 1) rows)) before after
covers_more view s rows i row before mid after below read first second =
    let more : take (i + 1) rows ≡ take i rows ++ row ∷ [] =
    take_more rows i row below ∙ ap (λ (r : Feature). take i rows ++ r ∷ []) (sym read) in
    covers_same view (λ p. list_any (s p) (take i rows) || s p row) (λ p. list_any (s p) (take (i + 1) rows)) before after
    (λ p. sym (ap (list_any (s p)) more ∙ any_append (s p) (take i rows) (row ∷ [])
    ∙ ap (λ (b : Bool). list_any (s p) (take i rows) || b) (any_one (s p row))))
    (covers_both view (λ p. list_any (s p) (take i rows)) (λ p. s p row) before mid after first second)

-- a run of features more is covered
pub covers_run : (view : PixelGrid) (s : Position → Feature → Bool) (rows run : List Feature) (i : ℕ)
    (before mid after : ℕ → ℕ → Bool) → take (length run) (drop i rows) ≡ run
    → Covers view (λ p. list_any (s p) (take i rows)) before mid → Covers view (λ p. list_any (s p) run) mid after
    → Covers view (λ p. list_any (s p) (take (i + length run) rows)) before after
covers_run view s rows run i before mid after is first second =
    let more : take (i + length run) rows ≡ take i rows ++ run =
    take-add i (length run) rows ∙ ap (λ (rs : List Feature). take i rows ++ rs) is in
    covers_same view (λ p. list_any (s p) (take i rows) || list_any (s p) run)
    (λ p. list_any (s p) (take (i + length run) rows)) before after
    (λ p. sym (ap (list_any (s p)) more ∙ any_append (s p) (take i rows) run))
    (covers_both view (λ p. list_any (s p) (take i rows)) (λ p. list_any (s p) run) before mid after first second)
