-- Places of a raster that is kept row by row, and what stands there after a run of it has changed.
use Rattle.std.proofs.Common.{◌≡◌, ℕ, ◌+◌, ◌-◌, ◌*◌, ◌<◌, ◌≤◌, Bool, true, false, ◌&&◌, ◌==◌, nat_le, nat_lt, if◌then◌else◌}
use Rattle.std.proofs.Common.{List, ◌++◌, map, length, get_or, take, drop, arith, ap, sym, ◌∙◌, refl, ⊎_elim}
use Rattle.std.proofs.Math.Path.{fun_ext}
use Rattle.std.proofs.Math.Nat.{mul-le-mul_right}
use Rattle.std.proofs.lemmas.Bool.{cases_lt, cases_order}
use Rattle.std.proofs.lemmas.Bool.Decides.{nat_tests}
use Rattle.std.proofs.lemmas.List.{places, ext_get_or, get_or-map, length-map, length-append, length-drop, length-take-le}
use Rattle.std.proofs.lemmas.List.{get_or-append_right, get_or_append_left, with_items_is}
use Rattle.std.proofs.lemmas.List.Edits.{length-between, get_or-between}
use Rattle.std.proofs.lemmas.List.FromFn.{length-map-range_with_len, get_or-map-range_with_len}
use Rattle.std.specs.List.{between}
use borrow.Rule.Slice.PartMut.{put_mid, post_of}
use Rattle.std.specs.Vec.{with_items}
use Rattle.std.proofs.Common.{Vec}
use Rattle.cv_model.specs.Rasters.{row_of}
use Rattle.cv_geom.specs.declared.runs.Run.{Run}
use Rattle.cv_geom.specs.Runs.{IsWithin, is_on}
use Rattle.cv_canvas.specs.Canvas.{changed, item_in}

-- the rows before a row, and this row, fit a raster
row_within : (w h j : ℕ) → j < h → j * w + w ≤ w * h
row_within w h j below =
    let at_most : (j + 1) * w ≤ h * w = mul-le-mul_right w (omega arith) in
    let e : (j + 1) * w ≡ j * w + w = grind arith in
    let f : h * w ≡ w * h = grind arith in omega arith

-- a run's last place lies in the raster
pub end_within : (w h : ℕ) (run : Run) → IsWithin w h run → run.row * w + run.end ≤ w * h
end_within w h run inside =
    let whole : run.row * w + w ≤ w * h = row_within w h run.row inside.row_in in
    let end_in : run.end ≤ w = inside.end_in in omega arith

-- a place in a lower row stands before those of a row, and one in a higher row behind them
rows_apart : (w row j : ℕ) → j < row → j * w + w ≤ row * w
rows_apart w row j below =
    let at_most : (j + 1) * w ≤ row * w = mul-le-mul_right w (omega arith) in
    let e : (j + 1) * w ≡ j * w + w = grind arith in omega arith

-- the tests of a place and those of its column and row agree in a lower row, in a higher row and in the same one
tests_below : (p q w from end j row i : ℕ) → i < w → j < row → q + w ≤ p →
    (nat_le (p + from) (q + i) && nat_lt (q + i) (p + end)) ≡ ((j == row) && (nat_le from i && nat_lt i end))
tests_below p q w from end j row i column below apart = grind (arith, nat_tests)

tests_above : (p q w from end j row i : ℕ) → end ≤ w → row < j → p + w ≤ q →
    (nat_le (p + from) (q + i) && nat_lt (q + i) (p + end)) ≡ ((j == row) && (nat_le from i && nat_lt i end))
tests_above p q w from end j row i end_in above apart = grind (arith, nat_tests)

tests_same : (p q from end j row i : ℕ) → j ≡ row → p ≡ q →
    (nat_le (p + from) (q + i) && nat_lt (q + i) (p + end)) ≡ ((j == row) && (nat_le from i && nat_lt i end))
tests_same p q from end j row i same e = grind (arith, nat_tests)

-- the places of a run, where one row follows another, are those of its columns and its row
in_row : (w row from end j i : ℕ) → i < w → end ≤ w →
    (nat_le (row * w + from) (j * w + i) && nat_lt (j * w + i) (row * w + end))
    ≡ ((j == row) && (nat_le from i && nat_lt i end))
in_row w row from end j i column end_in =
    ⊎_elim (λ e. tests_same (row * w) (j * w) from end j row i e (ap (λ k. k * w) (sym e)))
    (⊎_elim (λ below. tests_below (row * w) (j * w) w from end j row i column below (rows_apart w row j below))
    (λ above. tests_above (row * w) (j * w) w from end j row i end_in above (rows_apart w j row above)))
    (cases_order j row)

-- what stands before, in and behind the part from a to e after the part has changed
place_before : {A : Type 0} (f : A → A) (a e : ℕ) (xs : List A) (k : ℕ) (d : A) → a ≤ e → e ≤ length xs → k < a
    → get_or (put_mid a (e - a) xs (map f (between a e xs))) k d ≡ get_or xs k d
place_before f a e xs k d order within before = grind (arith, places)

place_inside : {A : Type 0} (f : A → A) (a e : ℕ) (xs : List A) (k : ℕ) (d : A) → a ≤ e → e ≤ length xs → a ≤ k
    → k < e → get_or (put_mid a (e - a) xs (map f (between a e xs))) k d ≡ f (get_or xs k d)
place_inside f a e xs k d order within from end =
    let front : length (take a xs) ≡ a = length-take-le a xs (omega arith) in
    let part : length (between a e xs) ≡ e - a = length-between xs a e within in
    let inside : k - a < length (map f (between a e xs)) =
    rw (length-map (between a e xs) f) (omega arith) in
    let near : k - a < length (between a e xs) = omega arith in
    let back : a + (k - a) ≡ k = omega arith in
    get_or-append_right (take a xs) (map f (between a e xs) ++ post_of a (e - a) xs) a k d front from
    ∙ get_or_append_left (map f (between a e xs)) (post_of a (e - a) xs) d (k - a) inside
    ∙ get_or-map f (between a e xs) (k - a) d d near
    ∙ ap f (get_or-between xs a e (k - a) d (omega arith) ∙ ap (λ n. get_or xs n d) back)

place_behind : {A : Type 0} (f : A → A) (a e : ℕ) (xs : List A) (k : ℕ) (d : A) → a ≤ e → e ≤ length xs → e ≤ k
    → get_or (put_mid a (e - a) xs (map f (between a e xs))) k d ≡ get_or xs k d
place_behind f a e xs k d order within behind = grind (arith, places, length-map)

-- what stands at a place after the part from a to e has changed
pub part_place : {A : Type 0} (f : A → A) (a e : ℕ) (xs : List A) (k : ℕ) (d : A) → a ≤ e → e ≤ length xs
    → get_or (put_mid a (e - a) xs (map f (between a e xs))) k d
    ≡ (if nat_le a k && nat_lt k e then f (get_or xs k d) else get_or xs k d)
part_place f a e xs k d order within =
    ⊎_elim (λ before.
    let t : (nat_le a k && nat_lt k e) ≡ false = grind (arith, nat_tests) in
    rw t (place_before f a e xs k d order within before))
    (λ from. ⊎_elim (λ end.
    let t : (nat_le a k && nat_lt k e) ≡ true = grind (arith, nat_tests) in
    rw t (place_inside f a e xs k d order within from end))
    (λ behind.
    let t : (nat_le a k && nat_lt k e) ≡ false = grind (arith, nat_tests) in
    rw t (place_behind f a e xs k d order within behind))
    (cases_lt k e))
    (cases_lt k a)

-- a run of a raster has changed at a place
changed_at : {A : Type 0} (f : A → A) (outside : A) (w : ℕ) (xs ys : List A) (run : Run) (i j : ℕ) → run.end ≤ w
    → ((k : ℕ) → get_or ys k outside
    ≡ (if nat_le (run.row * w + run.from) k && nat_lt k (run.row * w + run.end) then f (get_or xs k outside) else get_or xs k outside))
    → item_in outside w ys i j ≡ changed f (item_in outside w xs) run i j
changed_at f outside w xs ys run i j end_in told =
    ⊎_elim (λ column.
    let t : nat_lt i w ≡ true = grind (arith, nat_tests) in
    simp t
    (told (j * w + i)
    ∙ ap (λ (on : Bool). if on then f (get_or xs (j * w + i) outside) else get_or xs (j * w + i) outside)
    (in_row w run.row run.from run.end j i column end_in)))
    (λ beyond.
    let t : nat_lt i w ≡ false = grind (arith, nat_tests) in
    let off : is_on run i j ≡ false = grind (arith, nat_tests) in simp (t, off) refl)
    (cases_lt i w)

-- a run of a raster has changed, where each place of the run has
pub changed_where : {A : Type 0} (f : A → A) (outside : A) (w : ℕ) (xs ys : List A) (run : Run) → run.end ≤ w
    → ((k : ℕ) → get_or ys k outside
    ≡ (if nat_le (run.row * w + run.from) k && nat_lt k (run.row * w + run.end) then f (get_or xs k outside) else get_or xs k outside))
    → item_in outside w ys ≡ changed f (item_in outside w xs) run
changed_where f outside w xs ys run end_in told =
    fun_ext (λ i. fun_ext (λ j. changed_at f outside w xs ys run i j end_in told))

-- a run of a raster has changed, where its part of the list has
changed_by : {A : Type 0} (f : A → A) (outside : A) (w h : ℕ) (xs : List A) (run : Run) → length xs ≡ w * h
    → IsWithin w h run
    → item_in outside w (put_mid (run.row * w + run.from) ((run.row * w + run.end) - (run.row * w + run.from)) xs
    (map f (between (run.row * w + run.from) (run.row * w + run.end) xs)))
    ≡ changed f (item_in outside w xs) run
changed_by f outside w h xs run whole inside =
    let order : run.from ≤ run.end = inside.order in
    let end_in : run.end ≤ w = inside.end_in in
    let last : run.row * w + run.end ≤ w * h = end_within w h run inside in
    let ordered : run.row * w + run.from ≤ run.row * w + run.end = omega arith in
    let within : run.row * w + run.end ≤ length xs = omega arith in
    changed_where f outside w xs _ run end_in
    (λ k. part_place f (run.row * w + run.from) (run.row * w + run.end) xs k outside ordered within)

-- a part that has changed is as long as it was
part_long : {A : Type 0} (f : A → A) (a e : ℕ) (xs : List A) → a ≤ e → e ≤ length xs
    → length (put_mid a (e - a) xs (map f (between a e xs))) ≡ length xs
part_long f a e xs order within =
    let front : length (take a xs) ≡ a = length-take-le a xs (omega arith) in
    let part : length (between a e xs) ≡ e - a = length-between xs a e within in
    let mid : length (map f (between a e xs)) ≡ e - a = length-map (between a e xs) f ∙ part in
    let rest : length (post_of a (e - a) xs) ≡ (length xs - a) - (e - a) =
    length-drop (e - a) (drop a xs) ∙ ap (λ n. n - (e - a)) (length-drop a xs) in
    let back : length (map f (between a e xs) ++ post_of a (e - a) xs) ≡ length xs - a =
    omega (arith, length-append (map f (between a e xs)) (post_of a (e - a) xs)) in
    omega (arith, length-append (take a xs) (map f (between a e xs) ++ post_of a (e - a) xs))

-- a run of a raster that is kept in a vector has changed
pub laid_by : {A Z : Type 0} (f : A → A) (outside : A) (w h : ℕ) (v : Vec A Z) (xs ys : List A) (run : Run)
    → xs ≡ v.items → length xs ≡ v.len → length v.items ≡ w * h → IsWithin w h run
    → ys ≡ map f (between (run.row * w + run.from) (run.row * w + run.end) xs)
    → item_in outside w (with_items v (put_mid (run.row * w + run.from)
    ((run.row * w + run.end) - (run.row * w + run.from)) xs ys)).items
    ≡ changed f (item_in outside w v.items) run
laid_by f outside w h v xs ys run held long whole inside change =
    let whole_xs : length xs ≡ w * h = ap length held ∙ whole in
    let order : run.from ≤ run.end = inside.order in
    let last : run.row * w + run.end ≤ w * h = end_within w h run inside in
    let same = part_long f (run.row * w + run.from) (run.row * w + run.end) xs (omega arith) (omega arith) in
    rw (change, with_items_is v _ (same ∙ long))
    (changed_by f outside w h xs run whole_xs inside ∙ ap (λ items. changed f (item_in outside w items) run) held)

-- the part of a row is the row
pub row_is : {A : Type 0} (outside : A) (w h : ℕ) (xs : List A) (j : ℕ) → length xs ≡ w * h → j < h
    → between (j * w) (j * w + w) xs ≡ row_of w (item_in outside w xs) j
row_is outside w h xs j whole below =
    let fits : j * w + w ≤ length xs = omega (arith, row_within w h j below) in
    let long : length (between (j * w) (j * w + w) xs) ≡ w =
    omega (arith, length-between xs (j * w) (j * w + w) fits) in
    ext_get_or outside _ _ (long ∙ sym (length-map-range_with_len (λ i. item_in outside w xs i j) 0 w))
    (λ k inside.
    let column : k < w = omega arith in
    let t : nat_lt k w ≡ true = grind (arith, nat_tests) in
    get_or-between xs (j * w) (j * w + w) k outside (omega arith)
    ∙ sym (get_or-map-range_with_len (λ i. item_in outside w xs i j) 0 w k k outside column (omega arith)
    ∙ simp t refl))
