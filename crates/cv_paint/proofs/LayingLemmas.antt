-- Runs of a colour laid on a canvas, and strokes laid one after the other.
use Rattle.std.proofs.Common.{◌≡◌, ℕ, ◌<◌, ◌≤◌, Bool, true, false, ◌||◌, if◌then◌else◌, List, [], ◌∷◌, ◌++◌, Option, None}
use Rattle.std.proofs.Common.{refl, ap, sym, subst, ◌∙◌, arith}
use Rattle.std.specs.Prelude.{find}
use Rattle.std.specs.List.{flat_map}
use Rattle.std.proofs.Common.{Some, take, drop, length, get_or, ◌+◌, ◌-◌, min}
use Rattle.std.proofs.Math.Seq.{take-add}
use Rattle.std.proofs.lemmas.Grind.{flat_map-append}
use Rattle.std.proofs.lemmas.List.{append-nil, take_more, take_all, take-append-drop, drop-drop, length-take, length-drop}
use Rattle.cv_model.specs.declared.feature.Feature.{Feature}
use Rattle.cv_model.specs.declared.colour.Rgba.{Rgba}
use Rattle.cv_model.specs.Positions.{Position}
use Rattle.cv_model.specs.Views.{PixelGrid, centre_of}
use Rattle.cv_model.specs.Colours.{over, laid_on}
use Rattle.cv_model.specs.Pictures.{laid_where}
use Rattle.cv_geom.specs.declared.runs.Run.{Run}
use Rattle.cv_geom.specs.declared.runs.Area.{Area}
use Rattle.cv_geom.specs.Runs.{is_on, is_on_any, IsApart, AreRunsOf, IsIn}
use Rattle.cv_geom.proofs.RunLemmas.{runs-apart}
use Rattle.cv_canvas.specs.Canvas.{with_run, with_runs}
use Rattle.cv_paint.specs.Layings.{Lays, whole_of}
use Rattle.cv_paint.proofs.LayLemmas.{laid_more}

-- the first item is found, or those behind it are asked
find_append_case : (test : Bool) (x : Feature) (front whole back : Option Feature)
    → (if test then Some x else front) ≡ None → (front ≡ None → whole ≡ back)
    → (if test then Some x else whole) ≡ back
find_append_case true x front whole back none rest = cc
find_append_case false x front whole back none rest = rest none

find_first_case : (test : Bool) (x row : Feature) (front whole : Option Feature)
    → (if test then Some x else front) ≡ Some row → (front ≡ Some row → whole ≡ Some row)
    → (if test then Some x else whole) ≡ Some row
find_first_case true x row front whole found rest = found
find_first_case false x row front whole found rest = rest found

-- what is found in a list in whose front nothing is
find_append : (p : Feature → Bool) (xs ys : List Feature) → find p xs ≡ None → find p (xs ++ ys) ≡ find p ys
find_append p [] ys none = refl
find_append p (x ∷ xs) ys none = find_append_case (p x) x (find p xs) (find p (xs ++ ys)) (find p ys) none
    (find_append p xs ys)

-- what is found in a list in whose front something is
find_first : (p : Feature → Bool) (xs ys : List Feature) (row : Feature) → find p xs ≡ Some row
    → find p (xs ++ ys) ≡ Some row
find_first p [] ys row found = cc
find_first p (x ∷ xs) ys row found = find_first_case (p x) x row (find p xs) (find p (xs ++ ys)) found
    (find_first p xs ys row)

-- what a pixel has after one run of several that share no pixel
one_run : (first rest : Bool) (c : Rgba → Rgba) (b : Rgba) → (first ≡ true → rest ≡ false)
    → (if rest then c (if first then c b else b) else (if first then c b else b)) ≡ (if first || rest then c b else b)
one_run true true c b apart = cc (apart refl)
one_run true false c b apart = refl
one_run false rest c b apart = refl

-- runs that share no pixel lay a colour once on each of theirs
laid_once : (colour : Rgba) (before : ℕ → ℕ → Rgba) (runs : List Run) (i j : ℕ) → IsApart runs
    → with_runs colour before runs i j ≡ (if is_on_any i j runs then over colour (before i j) else before i j)
laid_once colour before [] i j apart = refl
laid_once colour before (run ∷ rest) i j apart =
    laid_once colour (with_run colour before run) rest i j apart.1
    ∙ one_run (is_on run i j) (is_on_any i j rest) (over colour) (before i j) (apart.0 i j)

-- a colour laid where a test holds
where_is : (hit : Bool) (colour below : Rgba)
    → (if hit then over colour below else below) ≡ laid_on below (laid_where hit colour)
where_is true colour below = refl
where_is false colour below = refl

-- the runs of a test lay a colour where it holds
pub lays_runs : (view : PixelGrid) (hit : Position → Bool) (colour : Rgba) (before after : ℕ → ℕ → Rgba)
    (runs : List Run) → AreRunsOf (λ i j. hit (centre_of view i j)) (whole_of view) runs
    → after ≡ with_runs colour before runs → Lays view (λ p. laid_where (hit p) colour) before after
lays_runs view hit colour before after runs are laid = record {
  at = λ i j column row.
      let inside : IsIn (whole_of view) i j =
      record { west = omega arith; east = column; north = omega arith; south = row } in
      ap (λ (f : ℕ → ℕ → Rgba). f i j) laid
      ∙ laid_once colour before runs i j (runs-apart _ _ _ are)
      ∙ ap (λ (on : Bool). if on then over colour (before i j) else before i j) (are.covered i j inside)
      ∙ where_is (hit (centre_of view i j)) colour (before i j);
}

-- the same, of runs as a painter has them
pub lays_where : (view : PixelGrid) (hit : Position → Bool) (used colour : Rgba) (before after : ℕ → ℕ → Rgba)
    (area : Area) (made runs : List Run) → used ≡ colour → area ≡ whole_of view → runs ≡ made
    → AreRunsOf (λ i j. hit (centre_of view i j)) area made → after ≡ with_runs used before runs
    → Lays view (λ p. laid_where (hit p) colour) before after
lays_where view hit used colour before after area made runs paint whole held are laid =
    let test : ℕ → ℕ → Bool = λ i j. hit (centre_of view i j) in
    lays_runs view hit colour before after runs
    (subst (λ a. AreRunsOf test a runs) whole (subst (λ rs. AreRunsOf test area rs) (sym held) are))
    (laid ∙ ap (λ k. with_runs k before runs) paint)

-- no strokes leave all as it is
pub lays_none : (view : PixelGrid) (f : ℕ → ℕ → Rgba) → Lays view (λ p. []) f f
lays_none view f = record { at = λ i j column row. refl }

-- strokes that are none at each centre leave all as it is
pub lays_missed : (view : PixelGrid) (s : Position → List Rgba) (f : ℕ → ℕ → Rgba)
    → ((i j : ℕ) → i < view.w → j < view.h → s (centre_of view i j) ≡ []) → Lays view s f f
lays_missed view s f none = record {
  at = λ i j column row. sym (ap (λ (cs : List Rgba). laid_on (f i j) cs) (none i j column row));
}

-- strokes laid, and then others
pub lays_both : (view : PixelGrid) (s t : Position → List Rgba) (before mid after : ℕ → ℕ → Rgba)
    → Lays view s before mid → Lays view t mid after → Lays view (λ p. s p ++ t p) before after
lays_both view s t before mid after first second = record {
  at = λ i j column row.
      second.at i j column row
      ∙ ap (λ b. laid_on b (t (centre_of view i j))) (first.at i j column row)
      ∙ sym (laid_more (before i j) (s (centre_of view i j)) (t (centre_of view i j)));
}

-- the strokes of one feature more are laid
pub lays_more : (view : PixelGrid) (s : Position → Feature → List Rgba) (rows : List Feature) (i : ℕ) (row : Feature)
    (before mid after : ℕ → ℕ → Rgba) → i < length rows → row ≡ get_or rows i row
    → Lays view (λ p. flat_map (s p) (take i rows)) before mid → Lays view (λ p. s p row) mid after
    → Lays view (λ p. flat_map (s p) (take (i + 1) rows)) before after
lays_more view s rows i row before mid after below read first second = record {
  at = λ x y column line.
      let p = centre_of view x y in
      let more : take (i + 1) rows ≡ take i rows ++ row ∷ [] =
      take_more rows i row below ∙ ap (λ (r : Feature). take i rows ++ r ∷ []) (sym read) in
      let same : flat_map (s p) (take (i + 1) rows) ≡ flat_map (s p) (take i rows) ++ s p row =
      ap (flat_map (s p)) more ∙ flat_map-append (s p) (take i rows) (row ∷ [])
      ∙ ap (λ (zs : List Rgba). flat_map (s p) (take i rows) ++ zs) (append-nil (s p row)) in
      (lays_both view (λ p. flat_map (s p) (take i rows)) (λ p. s p row) before mid after first second).at x y column line
      ∙ ap (λ (zs : List Rgba). laid_on (before x y) zs) (sym same);
}

-- a run of a list stands within it
pub run_within : {A : Type 0} (rows run : List A) (i : ℕ) → i ≤ length rows → take (length run) (drop i rows) ≡ run
    → i + length run ≤ length rows
run_within rows run i below is =
    let e : min (length run) (length rows - i) ≡ length run =
    sym (length-take (length run) (drop i rows) ∙ ap (λ n. min (length run) n) (length-drop i rows)) ∙ ap length is in
    omega arith

-- those of a run of features more
pub lays_run : (view : PixelGrid) (s : Position → Feature → List Rgba) (rows run : List Feature) (i : ℕ)
    (before mid after : ℕ → ℕ → Rgba) → take (length run) (drop i rows) ≡ run
    → Lays view (λ p. flat_map (s p) (take i rows)) before mid → Lays view (λ p. flat_map (s p) run) mid after
    → Lays view (λ p. flat_map (s p) (take (i + length run) rows)) before after
lays_run view s rows run i before mid after is first second = record {
  at = λ x y column line.
      let p = centre_of view x y in
      let more : take (i + length run) rows ≡ take i rows ++ run =
      take-add i (length run) rows ∙ ap (λ (rs : List Feature). take i rows ++ rs) is in
      let same : flat_map (s p) (take (i + length run) rows) ≡ flat_map (s p) (take i rows) ++ flat_map (s p) run =
      ap (flat_map (s p)) more ∙ flat_map-append (s p) (take i rows) run in
      (lays_both view (λ p. flat_map (s p) (take i rows)) (λ p. flat_map (s p) run) before mid after first second).at
      x y column line
      ∙ ap (λ (zs : List Rgba). laid_on (before x y) zs) (sym same);
}

-- the features to the end are all features
pub lays_all : (view : PixelGrid) (s : Position → Feature → List Rgba) (rows : List Feature) (i : ℕ)
    (before after : ℕ → ℕ → Rgba) → length rows ≤ i → Lays view (λ p. flat_map (s p) (take i rows)) before after
    → Lays view (λ p. flat_map (s p) rows) before after
lays_all view s rows i before after end laid =
    let P : List Feature → Type 0 = λ rs. Lays view (λ p. flat_map (s p) rs) before after in
    subst P (take_all i rows end) laid

-- a run of a list in which nothing was found
pub found_behind : (p : Feature → Bool) (rows run : List Feature) (i : ℕ) → take (length run) (drop i rows) ≡ run
    → find p run ≡ None → find p (drop (i + length run) rows) ≡ find p (drop i rows)
found_behind p rows run i is none =
    let split : drop i rows ≡ run ++ drop (i + length run) rows =
    sym (take-append-drop (length run) (drop i rows)) ∙ ap (λ (rs : List Feature). rs ++ drop (length run) (drop i rows)) is
    ∙ ap (λ (rs : List Feature). run ++ rs) (drop-drop (length run) i rows) in
    sym (ap (find p) split ∙ find_append p run (drop (i + length run) rows) none)

-- a run of a list in which something was found
pub found_in : (p : Feature → Bool) (rows run : List Feature) (i : ℕ) (row : Feature)
    → take (length run) (drop i rows) ≡ run → find p run ≡ Some row → find p (drop i rows) ≡ Some row
found_in p rows run i row is found =
    let split : drop i rows ≡ run ++ drop (length run) (drop i rows) =
    sym (take-append-drop (length run) (drop i rows)) ∙ ap (λ (rs : List Feature). rs ++ drop (length run) (drop i rows)) is in
    ap (find p) split ∙ find_first p run (drop (length run) (drop i rows)) row found
