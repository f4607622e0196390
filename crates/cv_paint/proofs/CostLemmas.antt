-- Steps: those of runs, of a geometry, of features, and of strips.
use Rattle.std.proofs.Common.{◌≡◌, ℕ, ◌+◌, ◌-◌, ◌*◌, ◌<◌, ◌≤◌, Bool, List, [], ◌∷◌, ◌++◌, Option, Some, None, take, drop}
use Rattle.std.proofs.Common.{suc, length, get_or, sum_by, ap, sym, subst, ◌∙◌, arith}
use Rattle.std.specs.Option.{option_map_or}
use Rattle.std.proofs.lemmas.List.{drop_more, take-append-drop, drop-drop}
use Rattle.std.proofs.lemmas.List.Sums.{sum_by-cons, sum_by-append}
use Rattle.cv_model.specs.declared.feature.Feature.{Feature}
use Rattle.cv_model.specs.Geometries.{GeometryLists}
use Rattle.cv_model.specs.Layers.{Contents, Features, Cells, Core, Parts}
use Rattle.cv_model.specs.Views.{PixelGrid}
use Rattle.cv_geom.specs.declared.runs.Run.{Run}
use Rattle.cv_geom.specs.declared.runs.Area.{Area}
use Rattle.cv_geom.specs.Runs.{AreRunsOf, rows_of, size_of, length_of, edges_of, segments_of}
use Rattle.cv_geom.proofs.RunLemmas.{runs-few}
use Rattle.cv_layer.specs.declared.strips.Rect.{Rect}
use Rattle.cv_layer.specs.Strips.{StripPair}
use Rattle.cv_paint.specs.Layings.{whole_of}
use Rattle.cv_paint.specs.Windows.{window_of}
use Rattle.cv_paint.specs.Costs.{sides_in, sides_of, contents_sides, contents_features, sides, features, most_steps}
use Rattle.cv_paint.specs.Costs.{runs_cost, geometry_cost, feature_cost, features_cost, contents_cost}
use Rattle.cv_paint.specs.Costs.{mask_cost, view_cost, rect_cost}

-- nothing taken away
less_none : (n : ℕ) → n - 0 ≡ n
less_none n = omega arith

-- the steps that find runs
pub runs_found : (view : PixelGrid) (area : Area) (n m old mid : ℕ) → area ≡ whole_of view → n ≡ m
    → mid ≤ old + n * rows_of area → mid ≤ old + runs_cost view m
unfolding runs_cost
runs_found view area n m old mid whole same found =
    let rows : mid ≤ old + n * (view.h - 0) = subst (λ (a : Area). mid ≤ old + n * rows_of a) whole found in
    let held : mid ≤ old + n * view.h = subst (λ (h : ℕ). mid ≤ old + n * h) (less_none view.h) rows in
    let own : mid ≤ old + m * view.h = subst (λ (k : ℕ). mid ≤ old + k * view.h) same held in
    omega (arith, own)

-- the steps that find runs and lay them
pub runs_paid : (view : PixelGrid) (test : ℕ → ℕ → Bool) (area : Area) (made runs : List Run) (n m old mid new : ℕ)
    → area ≡ whole_of view → runs ≡ made → AreRunsOf test area made → n ≡ m → mid ≤ old + n * rows_of area
    → new ≡ mid + sum_by length_of runs → new ≤ old + runs_cost view m
unfolding runs_cost
runs_paid view test area made runs n m old mid new whole held are same found laid =
    let few : sum_by length_of runs ≤ size_of area =
    subst (λ (rs : List Run). sum_by length_of rs ≤ size_of area) (sym held) (runs-few test area made are) in
    let seen : sum_by length_of runs ≤ (view.h - 0) * (view.w - 0) =
    subst (λ (a : Area). sum_by length_of runs ≤ size_of a) whole few in
    let high : sum_by length_of runs ≤ view.h * (view.w - 0) =
    subst (λ (h : ℕ). sum_by length_of runs ≤ h * (view.w - 0)) (less_none view.h) seen in
    let all : sum_by length_of runs ≤ view.h * view.w =
    subst (λ (w : ℕ). sum_by length_of runs ≤ view.h * w) (less_none view.w) high in
    let rows : mid ≤ old + n * (view.h - 0) = subst (λ (a : Area). mid ≤ old + n * rows_of a) whole found in
    let some : mid ≤ old + n * view.h = subst (λ (h : ℕ). mid ≤ old + n * h) (less_none view.h) rows in
    let own : mid ≤ old + m * view.h = subst (λ (k : ℕ). mid ≤ old + k * view.h) same some in
    omega (arith, own, all, laid)

-- the steps of a geometry's fill, pen and marker
pub geometry_paid : (view : PixelGrid) (g : GeometryLists)
    → runs_cost view (length (edges_of g.polygons))
    + (runs_cost view (length (edges_of g.polygons)) + runs_cost view (length (segments_of g.lines))
    + runs_cost view (length g.points)) ≤ geometry_cost view g
unfolding runs_cost geometry_cost
geometry_paid view g =
    paid (length (edges_of g.polygons)) (length (segments_of g.lines)) (length g.points) view.h (view.h * view.w)
  where
    paid : (e s p h q : ℕ)
        → (e * h + q) + ((e * h + q) + (s * h + q) + (p * h + q)) ≤ 2 * ((e + s + p) * h) + 4 * q
    paid e s p h q =
        let spread : (e + s + p) * h ≡ e * h + s * h + p * h = grind arith in omega (arith, spread)

-- the steps of its fill alone
pub fill_paid : (view : PixelGrid) (g : GeometryLists)
    → runs_cost view (length (edges_of g.polygons)) ≤ geometry_cost view g
fill_paid view g = omega (arith, geometry_paid view g)

-- before the first row all may still be paid
pub rows_first : (h w old : ℕ) → old + (h - 0) * w ≤ old + h * w
rows_first h w old = omega (arith, ap (λ n. n * w) (less_none h))

pub cells_first : (h w old : ℕ) → old + 2 * ((h - 0) * w) ≤ old + 2 * (h * w)
cells_first h w old = omega (arith, ap (λ n. n * w) (less_none h))

-- the steps of one row more
rows_less : (h w j : ℕ) → j < h → (h - j) * w ≡ w + (h - (j + 1)) * w
rows_less h w j below =
    let e : h - j ≡ 1 + (h - (j + 1)) = omega (arith, below) in
    ap (λ n. n * w) e ∙ one (h - (j + 1)) w
  where
    one : (n w : ℕ) → (1 + n) * w ≡ w + n * w
    one n w = grind arith

pub row_paid : (h w j old mid new : ℕ) → j < h → mid + (h - j) * w ≤ old + h * w → new ≤ mid + w
    → new + (h - (j + 1)) * w ≤ old + h * w
row_paid h w j old mid new below held cost = omega (arith, rows_less h w j below, held, cost)

pub cells_paid : (h w j old mid new : ℕ) → j < h → mid + 2 * ((h - j) * w) ≤ old + 2 * (h * w) → new ≤ mid + 2 * w
    → new + 2 * ((h - (j + 1)) * w) ≤ old + 2 * (h * w)
cells_paid h w j old mid new below held cost = omega (arith, rows_less h w j below, held, cost)

-- the sum over those from a place on: the first, and those behind it
pub cost_more : {A : Type 0} (f : A → ℕ) (xs : List A) (i : ℕ) (x : A) → i < length xs → x ≡ get_or xs i x
    → sum_by f (drop i xs) ≡ f x + sum_by f (drop (i + 1) xs)
cost_more f xs i x less is =
    ap (sum_by f) (drop_more xs i x less ∙ ap (λ y. y ∷ drop (i + 1) xs) (sym is)) ∙ sum_by-cons f x (drop (i + 1) xs)

-- the sum over those from a place on: a run, and those behind it
pub cost_run : {A : Type 0} (f : A → ℕ) (rows run : List A) (i : ℕ) → take (length run) (drop i rows) ≡ run
    → sum_by f (drop i rows) ≡ sum_by f run + sum_by f (drop (i + length run) rows)
cost_run f rows run i is =
    let split : drop i rows ≡ run ++ drop (i + length run) rows =
    sym (take-append-drop (length run) (drop i rows)) ∙ ap (λ rs. rs ++ drop (length run) (drop i rows)) is
    ∙ ap (λ rs. run ++ rs) (drop-drop (length run) i rows) in
    ap (sum_by f) split ∙ sum_by-append f run (drop (i + length run) rows)

-- the steps of features
features_paid : (view : PixelGrid) (fs : List Feature)
    → features_cost view fs ≤ 2 * (sum_by sides_of fs * view.h) + 4 * (view.h * view.w * length fs)
unfolding geometry_cost
features_paid view [] = omega arith
features_paid view (f ∷ fs) =
    rw (sum_by-cons (feature_cost view) f fs, sum_by-cons sides_of f fs)
    (added (feature_cost view f) (features_cost view fs) (sides_of f) (sum_by sides_of fs) view.h (view.h * view.w) (length fs)
    (one view f.geometry) (features_paid view fs))
  where
    one : (view : PixelGrid) (g : Option GeometryLists)
        → option_map_or (geometry_cost view) g 0 ≤ 2 * (option_map_or sides_in g 0 * view.h) + 4 * (view.h * view.w)
    one view None = omega arith
    one view (Some g) = omega arith

    added : (x y s t h q n : ℕ) → x ≤ 2 * (s * h) + 4 * q → y ≤ 2 * (t * h) + 4 * (q * n)
        → x + y ≤ 2 * ((s + t) * h) + 4 * (q * suc n)
    added x y s t h q n first rest =
        let spread : (s + t) * h ≡ s * h + t * h = grind arith in
        let more : q * suc n ≡ q + q * n = grind arith in omega (arith, spread, more, first, rest)

-- the steps of what a layer holds
contents_paid : (view : PixelGrid) (c : Contents)
    → contents_cost view c ≤ 2 * (contents_sides c * view.h) + 4 * (view.h * view.w * contents_features c)
contents_paid view (Features columns features) = features_paid view features
contents_paid view (Cells grid) = omega arith

-- those of a mask layer
mask_paid : (view : PixelGrid) (mask : Option Core)
    → mask_cost view mask ≤ 2 * (option_map_or (λ (core : Core). contents_sides core.contents) mask 0 * view.h)
    + 4 * (view.h * view.w * option_map_or (λ (core : Core). contents_features core.contents) mask 0)
mask_paid view None = omega arith
mask_paid view (Some core) = contents_paid view core.contents

-- those of a rectangle
pub rect_paid : (parts : Parts) (view : PixelGrid) (r : Rect) → view_cost (window_of view r) parts ≤ rect_cost parts r
unfolding rect_cost
rect_paid parts view r =
    together _ _ (contents_sides parts.own.contents)
    (option_map_or (λ (core : Core). contents_sides core.contents) parts.mask 0) (contents_features parts.own.contents)
    (option_map_or (λ (core : Core). contents_features core.contents) parts.mask 0) r.h (r.h * r.w)
    (contents_paid (window_of view r) parts.own.contents) (mask_paid (window_of view r) parts.mask)
  where
    together : (x y s t n m h q : ℕ) → x ≤ 2 * (s * h) + 4 * (q * n) → y ≤ 2 * (t * h) + 4 * (q * m)
        → x + (y + 2 * q) ≤ 2 * ((s + t) * h) + 4 * (q * (n + m + 1))
    together x y s t n m h q own mask =
        let spread : (s + t) * h ≡ s * h + t * h = grind arith in
        let more : q * (n + m + 1) ≡ q * n + q * m + q = grind arith in omega (arith, spread, more, own, mask)

-- those of strips
strips_paid : (parts : Parts) (s : StripPair)
    → option_map_or (rect_cost parts) s.first 0 + option_map_or (rect_cost parts) s.second 0 ≤ most_steps parts s
unfolding most_steps rect_cost
strips_paid parts s =
    both (sides parts) (features parts) _ _ _ _ _ _ (each parts s.first) (each parts s.second)
  where
    each : (parts : Parts) (r : Option Rect) → option_map_or (rect_cost parts) r 0
        ≤ 2 * (sides parts * option_map_or (λ (r : Rect). r.h) r 0)
        + 4 * (option_map_or (λ (r : Rect). r.h * r.w) r 0 * (features parts + 1))
    each parts None = omega arith
    each parts (Some r) = omega arith

    both : (s f x y h1 h2 a1 a2 : ℕ) → x ≤ 2 * (s * h1) + 4 * (a1 * (f + 1)) → y ≤ 2 * (s * h2) + 4 * (a2 * (f + 1))
        → x + y ≤ 2 * s * ((h1 + h2) + 1) + 4 * (a1 + a2) * (f + 1)
    both s f x y h1 h2 a1 a2 first second =
        let rows : 2 * s * ((h1 + h2) + 1) ≡ 2 * (s * h1) + 2 * (s * h2) + 2 * s = grind arith in
        let area : 4 * (a1 + a2) * (f + 1) ≡ 4 * (a1 * (f + 1)) + 4 * (a2 * (f + 1)) = grind arith in
        omega (arith, rows, area, first, second)

-- the steps of two strips, of parts and strips that are seen as these
pub both_paid : (parts made : Parts) (strips held : StripPair) (old mid new : ℕ) → made ≡ parts → held ≡ strips
    → mid ≤ old + option_map_or (rect_cost made) held.first 0 → new ≤ mid + option_map_or (rect_cost made) held.second 0
    → new ≤ old + most_steps parts strips
both_paid parts made strips held old mid new same seen first second =
    let most : new ≤ old + most_steps made held = omega (arith, first, second, strips_paid made held) in
    subst (λ (s : StripPair). new ≤ old + most_steps parts s) seen (subst (λ (p : Parts). new ≤ old + most_steps p held) same most)

-- and of the first of them
pub first_paid : (parts made : Parts) (strips held : StripPair) (old mid : ℕ) → made ≡ parts → held ≡ strips
    → mid ≤ old + option_map_or (rect_cost made) held.first 0 → mid ≤ old + most_steps parts strips
first_paid parts made strips held old mid same seen first =
    both_paid parts made strips held old mid mid same seen first (omega arith)
