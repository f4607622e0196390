-- Planes: what a bit that changes tells of each pixel of its row, and the marks that the set bits stand for.
use Rattle.std.proofs.Common.{◌≡◌, ◌∙◌, sym, ap, refl, ℕ, zero, suc, ◌+◌, ◌-◌, ◌*◌, ◌/◌, ◌%◌, ◌^◌, ◌<◌, ◌≤◌, nat_lt, nat_le, ◌==◌, ◌⊎◌, inl, inr, Bool, true, false, cond, ◌&&◌, ◌||◌, if◌then◌else◌, List, [], ◌∷◌, ◌++◌, length, get_or, None, arith}
use Rattle.std.specs.List.{All}
use Rattle.std.specs.Int.{bit_at}
use Rattle.std.specs.Int.Bits.{bit_xor}
use Rattle.std.proofs.Math.Nat.{mul-le-mul_right}
use Rattle.std.proofs.lemmas.Bool.Decides.{nat_tests}
use Rattle.std.proofs.lemmas.List.{append_assoc, get_or-set_same, get_or-set_other, length-set}
use Rattle.std.proofs.lemmas.List.Elements.{All-nil, All-cons}
use Rattle.std.proofs.lemmas.List.Sorted.{IsPermutation-refl}
use Rattle.std.proofs.lemmas.Nat.Bits.{bit_at_xor, bit_at-pow_same, bit_at-pow_other, bit_at-lt, bit_at-zero}
use Rattle.cv_geom.specs.declared.runs.Run.{Run}
use Rattle.cv_geom.specs.declared.runs.Area.{Area}
use Rattle.cv_geom.specs.Runs.{is_on_any, IsIn, Adds}
use Rattle.cv_scan.specs.declared.marks.Mark.{Mark}
use Rattle.cv_scan.specs.Marks.{marks_right, MarkIn, Descends, runs_from}
use Rattle.cv_scan.specs.Planes.{bit_of, toggled, width_of, first_of, HasBits, set_marks, right_bits, bits_right, HoldMarks}
use Rattle.cv_scan.proofs.MarkLemmas.{once, to_count, right-cons, AreDescending, pairs-added}

-- ---- a bit that changes

-- one where two places are the same
abbrev pub same_place : ℕ → ℕ → ℕ
same_place p q = to_count (p == q)

even-sum : (b : ℕ) → b < 2 → b ≡ (b + 0) % 2
even-sum b low = omega arith

toggle-bit :
    (words : List ℕ) (q p : ℕ) → q < 64 * length words
    → bit_of (toggled words q) p ≡ (bit_of words p + same_place p q) % 2
toggle-bit words q p below = pick (p / 64 == q / 64) (p % 64 == q % 64) (p == q) refl refl refl
  where
    word : ℕ
    word = get_or words (q / 64) 0

    changed : ℕ
    changed = bit_xor word (2 ^ (q % 64))

    here : (p / 64 ≡ q / 64) → bit_of (toggled words q) p ≡ bit_at changed (p % 64)
    here same =
        let most : q / 64 < length words = omega arith in
        ap (λ k. bit_at (get_or (toggled words q) k 0) (p % 64)) same
        ∙ ap (λ w. bit_at w (p % 64)) (get_or-set_same words (q / 64) changed 0 most)

    split :
        (p / 64 ≡ q / 64) → (b : ℕ) → bit_at (2 ^ (q % 64)) (p % 64) ≡ b
        → bit_of (toggled words q) p ≡ (bit_of words p + b) % 2
    split same b bit =
        here same ∙ bit_at_xor word (2 ^ (q % 64)) (p % 64)
        ∙ ap (λ k. (bit_at (get_or words k 0) (p % 64) + bit_at (2 ^ (q % 64)) (p % 64)) % 2) (sym same)
        ∙ ap (λ k. (bit_of words p + k) % 2) bit

    pick :
        (s t u : Bool) → (p / 64 == q / 64) ≡ s → (p % 64 == q % 64) ≡ t → (p == q) ≡ u
        → bit_of (toggled words q) p ≡ (bit_of words p + to_count u) % 2
    pick true true true s t u =
        let same : p / 64 ≡ q / 64 = grind (arith, nat_tests) in
        let place : p % 64 ≡ q % 64 = grind (arith, nat_tests) in
        split same 1 (ap (bit_at (2 ^ (q % 64))) place ∙ bit_at-pow_same (q % 64))
    pick true true false s t u =
        let same : p / 64 ≡ q / 64 = grind (arith, nat_tests) in
        let place : p % 64 ≡ q % 64 = grind (arith, nat_tests) in
        let all : p ≡ q = omega arith in
        absurd (grind (arith, nat_tests))
    pick true false true s t u =
        let all : p ≡ q = grind (arith, nat_tests) in
        let place : p % 64 ≡ q % 64 = ap (λ n. n % 64) all in
        absurd (grind (arith, nat_tests))
    pick true false false s t u =
        let same : p / 64 ≡ q / 64 = grind (arith, nat_tests) in
        split same 0 (bit_at-pow_other (q % 64) (p % 64) (λ place. absurd (grind (arith, nat_tests))))
    pick false t true s w u =
        let all : p ≡ q = grind (arith, nat_tests) in
        let same : p / 64 ≡ q / 64 = ap (λ n. n / 64) all in
        absurd (grind (arith, nat_tests))
    pick false t false s w u =
        ap (λ w. bit_at w (p % 64))
        (get_or-set_other words (q / 64) (p / 64) changed 0 (λ same. absurd (grind (arith, nat_tests))))
        ∙ even-sum (bit_of words p) (bit_at-lt (get_or words (p / 64) 0) (p % 64))

-- ---- what it tells of the pixels of a row

-- place q lies among n places, those before number x left out
abbrev pub hit : ℕ → ℕ → ℕ → ℕ → ℕ
hit first x n q = to_count (nat_le (first + x) q && nat_lt q (first + n))

hit-none : (first x q : ℕ) → hit first x 0 q ≡ 0
hit-none first x q = pick (nat_le (first + x) q) (nat_lt q (first + 0)) refl refl
  where
    pick : (s t : Bool) → nat_le (first + x) q ≡ s → nat_lt q (first + 0) ≡ t → to_count (s && t) ≡ 0
    pick true true s t = absurd (grind (arith, nat_tests))
    pick true false s t = refl
    pick false t s u = refl

hit-more :
    (first x n q : ℕ) → hit first x (suc n) q ≡ (if nat_le x n then same_place (first + n) q else 0) + hit first x n q
hit-more first x n q =
    pick (nat_le (first + x) q) (nat_lt q (first + suc n)) (nat_lt q (first + n)) (nat_le x n) (first + n == q) refl refl
    refl refl refl
  where
    pick :
        (a b c d e : Bool) → nat_le (first + x) q ≡ a → nat_lt q (first + suc n) ≡ b → nat_lt q (first + n) ≡ c
        → nat_le x n ≡ d → (first + n == q) ≡ e
        → to_count (a && b) ≡ (if d then to_count e else 0) + to_count (a && c)
    pick true true true true true p q r s t = absurd (grind (arith, nat_tests))
    pick true true true true false p q r s t = refl
    pick true true true false e p q r s t = refl
    pick true true false true true p q r s t = refl
    pick true true false true false p q r s t = absurd (grind (arith, nat_tests))
    pick true true false false e p q r s t = absurd (grind (arith, nat_tests))
    pick true false true d e p q r s t = absurd (grind (arith, nat_tests))
    pick true false false true true p q r s t = absurd (grind (arith, nat_tests))
    pick true false false true false p q r s t = refl
    pick true false false false e p q r s t = refl
    pick false b c true true p q r s t = absurd (grind (arith, nat_tests))
    pick false b c true false p q r s t = refl
    pick false b c false e p q r s t = refl

right-toggle :
    (words : List ℕ) (area : Area) (row x n q : ℕ) → q < 64 * length words
    → right_bits (toggled words q) area row x n % 2 ≡ (right_bits words area row x n + hit (first_of area row) x n q) % 2
right-toggle words area row x zero q below =
    let none = hit-none (first_of area row) x q in omega arith
right-toggle words area row x (suc n) q below =
    let first = first_of area row in
    let bit = toggle-bit words q (first + n) below in
    let rest = right-toggle words area row x n q below in
    let more = hit-more first x n q in
    sum (nat_le x n) (bit_of (toggled words q) (first + n)) (bit_of words (first + n)) (same_place (first + n) q)
    (right_bits (toggled words q) area row x n) (right_bits words area row x n) (hit first x n q)
    (hit first x (suc n) q) bit rest more
  where
    sum :
        (s : Bool) (new old here later before there all : ℕ) → new ≡ (old + here) % 2
        → later % 2 ≡ (before + there) % 2 → all ≡ (if s then here else 0) + there
        → ((if s then new else 0) + later) % 2 ≡ ((if s then old else 0) + before + all) % 2
    sum true new old here later before there all bit rest more = omega arith
    sum false new old here later before there all bit rest more = omega arith

-- the place of the last pixel left of a mark lies among those of a row from a pixel on exactly where the pixel
-- lies left of the mark
place-hit :
    (area : Area) (i j : ℕ) (mark : Mark) → IsIn area i j → MarkIn area mark → area.columns.from < mark.column
    → hit (first_of area j) (i - area.columns.from) (width_of area)
    (first_of area mark.row + (mark.column - 1 - area.columns.from))
    ≡ once i j mark
place-hit area i j mark here in_area right = rows (j == mark.row) refl
  where
    wide : ℕ
    wide = width_of area

    in-row : (f a : ℕ) → a ≡ f → to_count
        (nat_le (f + (i - area.columns.from)) (a + (mark.column - 1 - area.columns.from))
        && nat_lt (a + (mark.column - 1 - area.columns.from)) (f + wide))
        ≡ to_count (nat_lt i mark.column)
    in-row f a same =
        let west = here.west in
        let east = in_area.east in
        pick
        (nat_le (f + (i - area.columns.from)) (a + (mark.column - 1 - area.columns.from)))
        (nat_lt (a + (mark.column - 1 - area.columns.from)) (f + wide)) (nat_lt i mark.column) refl refl refl
      where
        pick :
            (s t u : Bool)
            → nat_le (f + (i - area.columns.from)) (a + (mark.column - 1 - area.columns.from)) ≡ s
            → nat_lt (a + (mark.column - 1 - area.columns.from)) (f + wide) ≡ t → nat_lt i mark.column ≡ u
            → to_count (s && t) ≡ to_count u
        pick true true true s t u = refl
        pick true true false s t u =
            let west = here.west in absurd (grind (arith, nat_tests))
        pick true false r s t u =
            let east = in_area.east in absurd (grind (arith, nat_tests))
        pick false t true s v u =
            let west = here.west in absurd (grind (arith, nat_tests))
        pick false t false s v u = refl

    off-row :
        (f a x m : ℕ) → (f + wide ≤ a) ⊎ (a + wide ≤ f) → m < wide
        → to_count (nat_le (f + x) (a + m) && nat_lt (a + m) (f + wide)) ≡ 0
    off-row f a x m apart less = pick (nat_le (f + x) (a + m)) (nat_lt (a + m) (f + wide)) refl refl apart
      where
        pick :
            (s t : Bool) → nat_le (f + x) (a + m) ≡ s → nat_lt (a + m) (f + wide) ≡ t
            → (f + wide ≤ a) ⊎ (a + wide ≤ f) → to_count (s && t) ≡ 0
        pick true true s t (inl over) = absurd (grind (arith, nat_tests))
        pick true true s t (inr under) = absurd (grind (arith, nat_tests))
        pick true false s t apart = refl
        pick false t s u apart = refl

    apart : (k n : ℕ) → k < n → k * wide + wide ≤ n * wide
    apart k n less =
        let far : suc k * wide ≤ n * wide = mul-le-mul_right wide less in
        let more : suc k * wide ≡ k * wide + wide = grind arith in
        omega arith

    other : (j < mark.row) ⊎ (mark.row < j) → (first_of area j + wide ≤ first_of area mark.row) ⊎ (first_of area mark.row + wide ≤ first_of area j)
    other (inl less) =
        let north = here.north in inl (apart (j - area.rows.from) (mark.row - area.rows.from) (omega arith))
    other (inr less) =
        let north = in_area.north in inr (apart (mark.row - area.rows.from) (j - area.rows.from) (omega arith))

    rows :
        (t : Bool) → (j == mark.row) ≡ t
        → hit (first_of area j) (i - area.columns.from) wide (first_of area mark.row + (mark.column - 1 - area.columns.from))
        ≡ cond (t && nat_lt i mark.column) 1 0
    rows true same =
        let at : j ≡ mark.row = grind (arith, nat_tests) in
        in-row (first_of area j) (first_of area mark.row) (ap (first_of area) (sym at))
        ∙ to-cond (nat_lt i mark.column)
      where
        to-cond : (b : Bool) → ◌≡◌ {A = ℕ} (to_count b) (cond b 1 0)
        to-cond true = refl
        to-cond false = refl
    rows false differ =
        let east = in_area.east in
        off-row (first_of area j) (first_of area mark.row) (i - area.columns.from)
        (mark.column - 1 - area.columns.from) (other (grind (arith, nat_tests))) (omega arith)

-- no pixel of an area lies left of a mark at its first column
none-left :
    (area : Area) (i j : ℕ) (mark : Mark) → IsIn area i j → mark.column ≤ area.columns.from → once i j mark ≡ 0
none-left area i j mark here left =
    let west = here.west in
    let over : nat_lt i mark.column ≡ false = grind (arith, nat_tests) in
    rw over (none (j == mark.row))
  where
    none : (b : Bool) → ◌≡◌ {A = ℕ} (cond (b && false) 1 0) 0
    none true = refl
    none false = refl

-- a bit that changes leaves the words in number
pub toggled-room : (area : Area) (words : List ℕ) (q : ℕ) → HasBits area words → HasBits area (toggled words q)
toggled-room area words q room =
    let many = length-set words (q / 64) (bit_xor (get_or words (q / 64) 0) (2 ^ (q % 64))) in omega arith

-- a mark whose bit was changed needs no more counting
pub toggled-odd :
    (area : Area) (words : List ℕ) (mark : Mark) (rest : List Mark) (i j total : ℕ) → IsIn area i j → MarkIn area mark
    → area.columns.from < mark.column
    → first_of area mark.row + (mark.column - 1 - area.columns.from) < 64 * length words
    → (right_bits words area j (i - area.columns.from) (width_of area) + marks_right i j (mark ∷ rest)) % 2 ≡ total
    → (right_bits (toggled words (first_of area mark.row + (mark.column - 1 - area.columns.from))) area j
    (i - area.columns.from) (width_of area) + marks_right i j rest) % 2
    ≡ total
toggled-odd area words mark rest i j total here in_area right below before =
    let q = first_of area mark.row + (mark.column - 1 - area.columns.from) in
    let change = right-toggle words area j (i - area.columns.from) (width_of area) q below in
    let one = place-hit area i j mark here in_area right in
    let split = right-cons i j mark rest in
    omega arith

pub skipped-odd :
    (area : Area) (words : List ℕ) (mark : Mark) (rest : List Mark) (i j total : ℕ) → IsIn area i j
    → mark.column ≤ area.columns.from
    → (right_bits words area j (i - area.columns.from) (width_of area) + marks_right i j (mark ∷ rest)) % 2 ≡ total
    → (right_bits words area j (i - area.columns.from) (width_of area) + marks_right i j rest) % 2 ≡ total
skipped-odd area words mark rest i j total here left before =
    let none = none-left area i j mark here left in
    let split = right-cons i j mark rest in
    omega arith

-- planes with the same bits tell the same
pub right-same :
    (new old : List ℕ) (area : Area) (row x n : ℕ) → ((place : ℕ) → bit_of new place ≡ bit_of old place)
    → right_bits new area row x n ≡ right_bits old area row x n
right-same new old area row x zero same = refl
right-same new old area row x (suc n) same =
    let rest = right-same new old area row x n same in
    let bit = same (first_of area row + n) in
    ap (λ (b : ℕ). (if nat_le x n then b else 0) + right_bits new area row x n) bit
    ∙ ap (λ (k : ℕ). (if nat_le x n then bit_of old (first_of area row + n) else 0) + k) rest

-- without words no bit is set
pub empty-bit : (place : ℕ) → bit_of [] place ≡ 0
empty-bit place = bit_at-zero (place % 64)

pub empty-none : (area : Area) (row x n : ℕ) → right_bits [] area row x n ≡ 0
empty-none area row x zero = refl
empty-none area row x (suc n) =
    let rest = empty-none area row x n in
    let bit = empty-bit (first_of area row + n) in
    pick (nat_le x n) (bit_of [] (first_of area row + n)) (right_bits [] area row x n) bit rest
  where
    pick : (s : Bool) (bit rest : ℕ) → bit ≡ 0 → rest ≡ 0 → (if s then bit else 0) + rest ≡ 0
    pick true bit rest none later = omega arith
    pick false bit rest none later = omega arith

-- ---- the marks that set bits stand for

bit-one : (b : ℕ) → b < 2 → (b == 1) ≡ true → b ≡ 1
bit-one b low is = grind (arith, nat_tests)

bit-none : (b : ℕ) → b < 2 → (b == 1) ≡ false → b ≡ 0
bit-none b low is = grind (arith, nat_tests)

set-right :
    (words : List ℕ) (area : Area) (row i : ℕ) (n : ℕ) → area.columns.from ≤ i
    → marks_right i row (set_marks words area row n) ≡ right_bits words area row (i - area.columns.from) n
set-right words area row i zero west = refl
set-right words area row i (suc n) west =
    let rest = set-right words area row i n west in
    let low = bit_at-lt (get_or words ((first_of area row + n) / 64) 0) ((first_of area row + n) % 64) in
    pick (bit_of words (first_of area row + n) == 1) refl low rest
  where
    mark : Mark
    mark = record { row = row; column = area.columns.from + n + 1 }

    here : once i row mark ≡ (if nat_le (i - area.columns.from) n then 1 else 0)
    here =
        let same : (row == row) ≡ true = grind (arith, nat_tests) in
        let left : nat_lt i (area.columns.from + n + 1) ≡ nat_le (i - area.columns.from) n = tests (nat_le (i - area.columns.from) n) refl in
        rw (same, left) (to-cond (nat_le (i - area.columns.from) n))
      where
        tests : (t : Bool) → nat_le (i - area.columns.from) n ≡ t → nat_lt i (area.columns.from + n + 1) ≡ t
        tests true most = grind (arith, nat_tests)
        tests false most = grind (arith, nat_tests)

        to-cond : (b : Bool) → ◌≡◌ {A = ℕ} (cond b 1 0) (if b then 1 else 0)
        to-cond true = refl
        to-cond false = refl

    pick :
        (t : Bool) → (bit_of words (first_of area row + n) == 1) ≡ t → bit_of words (first_of area row + n) < 2
        → marks_right i row (set_marks words area row n) ≡ right_bits words area row (i - area.columns.from) n
        → marks_right i row ((if t then mark ∷ [] else []) ++ set_marks words area row n)
        ≡ (if nat_le (i - area.columns.from) n then bit_of words (first_of area row + n) else 0)
        + right_bits words area row (i - area.columns.from) n
    pick true is low rest =
        let one = bit-one (bit_of words (first_of area row + n)) low is in
        let split = right-cons i row mark (set_marks words area row n) in
        let bit = ap (λ (b : ℕ). if nat_le (i - area.columns.from) n then b else 0) one in
        omega (arith, here)
    pick false is low rest =
        let none = bit-none (bit_of words (first_of area row + n)) low is in
        let bit = ap (λ (b : ℕ). if nat_le (i - area.columns.from) n then b else 0) none in
        let zero-both = both (nat_le (i - area.columns.from) n) in
        omega arith
      where
        both : (t : Bool) → ◌≡◌ {A = ℕ} (if t then 0 else 0) 0
        both true = refl
        both false = refl

-- one pixel more, whose bit is set or isn't
pub read-set :
    (words : List ℕ) (area : Area) (row column : ℕ) (marks new all : List Mark) → area.columns.from < column
    → (bit_of words (first_of area row + (column - 1 - area.columns.from)) == 1) ≡ true
    → new ≡ marks ++ (record { row = row; column = column }) ∷ []
    → marks ++ set_marks words area row (column - area.columns.from) ≡ all
    → new ++ set_marks words area row (column - 1 - area.columns.from) ≡ all
read-set words area row column marks new all some bit put told =
    let n = column - 1 - area.columns.from in
    let more : column - area.columns.from ≡ suc n = omega arith in
    let same : area.columns.from + n + 1 ≡ column = omega arith in
    let rest = set_marks words area row n in
    let step : set_marks words area row (suc n) ≡ (record { row = row; column = column }) ∷ rest =
    ap
    (λ (t : Bool).
    (if t then ((let mark : Mark = record { row = row; column = area.columns.from + n + 1 } in mark) ∷ []) else []) ++ rest)
    bit
    ∙ ap (λ (k : ℕ). (let mark : Mark = record { row = row; column = k } in mark) ∷ rest) same in
    ap (λ (ms : List Mark). ms ++ rest) put
    ∙ append_assoc marks ((let mark : Mark = record { row = row; column = column } in mark) ∷ []) rest
    ∙ ap (λ (ms : List Mark). marks ++ ms) (sym step)
    ∙ ap (λ k. marks ++ set_marks words area row k) (sym more)
    ∙ told

pub read-none :
    (words : List ℕ) (area : Area) (row column : ℕ) (marks all : List Mark) → area.columns.from < column
    → (bit_of words (first_of area row + (column - 1 - area.columns.from)) == 1) ≡ false
    → marks ++ set_marks words area row (column - area.columns.from) ≡ all
    → marks ++ set_marks words area row (column - 1 - area.columns.from) ≡ all
read-none words area row column marks all some bit told =
    let n = column - 1 - area.columns.from in
    let more : column - area.columns.from ≡ suc n = omega arith in
    let rest = set_marks words area row n in
    let step : set_marks words area row (suc n) ≡ rest =
    ap
    (λ (t : Bool).
    (if t then ((let mark : Mark = record { row = row; column = area.columns.from + n + 1 } in mark) ∷ []) else []) ++ rest)
    bit in
    ap (λ (ms : List Mark). marks ++ ms) (sym step)
    ∙ ap (λ k. marks ++ set_marks words area row k) (sym more)
    ∙ told

-- they lie in their row
set-off :
    (words : List ℕ) (area : Area) (row i j n : ℕ) → (j == row) ≡ false → marks_right i j (set_marks words area row n) ≡ 0
set-off words area row i j zero differ = refl
set-off words area row i j (suc n) differ =
    pick (bit_of words (first_of area row + n) == 1) (set-off words area row i j n differ)
  where
    mark : Mark
    mark = record { row = row; column = area.columns.from + n + 1 }

    pick :
        (t : Bool) → marks_right i j (set_marks words area row n) ≡ 0
        → marks_right i j ((if t then mark ∷ [] else []) ++ set_marks words area row n) ≡ 0
    pick true rest =
        let split = right-cons i j mark (set_marks words area row n) in
        let none : once i j mark ≡ 0 = rw differ refl in
        omega arith
    pick false rest = rest

set-in :
    (words : List ℕ) (area : Area) (row n : ℕ) → area.rows.from ≤ row → row < area.rows.end
    → area.columns.from + n ≤ area.columns.end → All (MarkIn area) (set_marks words area row n)
set-in words area row zero north south fits = All-nil (MarkIn area)
set-in words area row (suc n) north south fits =
    pick (bit_of words (first_of area row + n) == 1) (set-in words area row n north south (omega arith))
  where
    mark : Mark
    mark = record { row = row; column = area.columns.from + n + 1 }

    pick :
        (t : Bool) → All (MarkIn area) (set_marks words area row n)
        → All (MarkIn area) ((if t then mark ∷ [] else []) ++ set_marks words area row n)
    pick true rest =
        All-cons (MarkIn area) mark (set_marks words area row n)
        (record { north = north; south = south; west = omega arith; east = omega arith }) rest
    pick false rest = rest

-- in descending order
set-behind :
    (words : List ℕ) (area : Area) (row n : ℕ) (a : Mark) → row ≡ a.row → area.columns.from + n ≤ a.column
    → Descends a (set_marks words area row n)
set-behind words area row zero a same left = tt
set-behind words area row (suc n) a same left =
    pick (bit_of words (first_of area row + n) == 1) (set-behind words area row n a same (omega arith))
    (set-behind words area row n (record { row = row; column = area.columns.from + n + 1 }) refl (omega arith))
  where
    mark : Mark
    mark = record { row = row; column = area.columns.from + n + 1 }

    pick :
        (t : Bool) → Descends a (set_marks words area row n) → Descends mark (set_marks words area row n)
        → Descends a ((if t then mark ∷ [] else []) ++ set_marks words area row n)
    pick true skip rest = (inr (same, omega arith), rest)
    pick false skip rest = skip

set-falls : (words : List ℕ) (area : Area) (row n : ℕ) → AreDescending (set_marks words area row n)
set-falls words area row zero = tt
set-falls words area row (suc n) =
    pick (bit_of words (first_of area row + n) == 1) (set-falls words area row n)
    (set-behind words area row n (record { row = row; column = area.columns.from + n + 1 }) refl (omega arith))
  where
    mark : Mark
    mark = record { row = row; column = area.columns.from + n + 1 }

    pick :
        (t : Bool) → AreDescending (set_marks words area row n) → Descends mark (set_marks words area row n)
        → AreDescending ((if t then mark ∷ [] else []) ++ set_marks words area row n)
    pick true skip rest = rest
    pick false skip rest = skip

-- ---- the runs of the rows, one after the other

or-none : (b : Bool) → b ≡ (b || false)
or-none true = refl
or-none false = refl

pub rows-start :
    (test : ℕ → ℕ → Bool) (area : Area) (runs : List Run)
    → Adds (λ i j. nat_lt j area.rows.from && test i j) area runs runs
rows-start test area runs = record {
  within = λ all. all;
  covered = λ i j here.
      let north = here.north in
      let no : nat_lt j area.rows.from ≡ false = grind (arith, nat_tests) in
      or-none (is_on_any i j runs) ∙ ap (λ b. is_on_any i j runs || (b && test i j)) (sym no);
}

pub rows-done :
    (test : ℕ → ℕ → Bool) (area : Area) (row : ℕ) (old new : List Run) → area.rows.end ≤ row
    → Adds (λ i j. nat_lt j row && test i j) area old new → Adds test area old new
rows-done test area row old new all told = record {
  within = told.within;
  covered = λ i j here.
      let south = here.south in
      let yes : nat_lt j row ≡ true = grind (arith, nat_tests) in
      told.covered i j here ∙ ap (λ b. is_on_any i j old || (b && test i j)) yes;
}

pub row-more :
    (test : ℕ → ℕ → Bool) (area : Area) (row : ℕ) (odd : ℕ → ℕ → Bool) (first old new : List Run)
    → ((i j : ℕ) → IsIn area i j → odd i j ≡ ((j == row) && test i j))
    → Adds (λ i j. nat_lt j row && test i j) area first old → Adds odd area old new
    → Adds (λ i j. nat_lt j (row + 1) && test i j) area first new
row-more test area row odd first old new is before added = record {
  within = λ all. added.within (before.within all);
  covered = λ i j here.
      added.covered i j here
      ∙ ap (λ b. b || odd i j) (before.covered i j here)
      ∙ ap (λ b. (is_on_any i j first || (nat_lt j row && test i j)) || b) (is i j here)
      ∙ joined (is_on_any i j first) (test i j) (nat_lt j row) (j == row) (nat_lt j (row + 1)) (one-more j);
}
  where
    one-more : (j : ℕ) → nat_lt j (row + 1) ≡ (nat_lt j row || (j == row))
    one-more j = pick (nat_lt j row) (j == row) (nat_lt j (row + 1)) refl refl refl
      where
        pick :
            (a b c : Bool) → nat_lt j row ≡ a → (j == row) ≡ b → nat_lt j (row + 1) ≡ c → c ≡ (a || b)
        pick true b true p q r = refl
        pick true b false p q r = absurd (grind (arith, nat_tests))
        pick false true true p q r = refl
        pick false true false p q r = absurd (grind (arith, nat_tests))
        pick false false true p q r = absurd (grind (arith, nat_tests))
        pick false false false p q r = refl

    joined :
        (o t a b c : Bool) → c ≡ (a || b) → ((o || (a && t)) || (b && t)) ≡ (o || (c && t))
    joined true t a b c is = refl
    joined false true true b c is = rw is refl
    joined false true false b c is = rw is (and-true b)
      where
        and-true : (b : Bool) → (b && true) ≡ (b && true)
        and-true b = refl
    joined false false a b c is = none a b c
      where
        none : (a b c : Bool) → ((a && false) || (b && false)) ≡ (c && false)
        none true true true = refl
        none true true false = refl
        none true false true = refl
        none true false false = refl
        none false true true = refl
        none false true false = refl
        none false false true = refl
        none false false false = refl

-- one row more
pub row-read :
    (area : Area) (read : List Mark) (words : List ℕ) (row : ℕ) (first old new : List Run)
    → area.columns.from ≤ area.columns.end → area.rows.from ≤ row → row < area.rows.end
    → Adds (λ i j. nat_lt j row && (bits_right i j area words % 2 == 1)) area first old
    → read ≡ set_marks words area row (width_of area)
    → new ≡ old ++ runs_from area.columns.from None read
    → Adds (λ i j. nat_lt j (row + 1) && (bits_right i j area words % 2 == 1)) area first new
row-read area read words row first old new order north south before is put =
    let within : All (MarkIn area) read = rw is (set-in words area row (width_of area) north south (omega arith)) in
    let falls : AreDescending read = rw is (set-falls words area row (width_of area)) in
    row-more (λ i j. bits_right i j area words % 2 == 1) area row (λ i j. marks_right i j read % 2 == 1) first old new
    (λ i j here. odd i j here (j == row) refl) before
    (pairs-added area read read old new within (IsPermutation-refl read) falls put)
  where
    odd :
        (i j : ℕ) → IsIn area i j → (t : Bool) → (j == row) ≡ t
        → (marks_right i j read % 2 == 1) ≡ (t && (bits_right i j area words % 2 == 1))
    odd i j here true same =
        let at : j ≡ row = grind (arith, nat_tests) in
        let there = set-right words area j i (width_of area) here.west in
        ap (λ (ms : List Mark). marks_right i j ms % 2 == 1) (is ∙ ap (λ r. set_marks words area r (width_of area)) (sym at))
        ∙ ap (λ n. n % 2 == 1) there
    odd i j here false differ =
        let none = set-off words area row i j (width_of area) differ in
        ap (λ (ms : List Mark). marks_right i j ms % 2 == 1) is ∙ ap (λ n. n % 2 == 1) none

-- marks are held when all of their bits were changed
pub held-all :
    (area : Area) (marks rest : List Mark) (old words : List ℕ) → HasBits area words → rest ≡ []
    → ((i j : ℕ) → IsIn area i j
    → (bits_right i j area words + marks_right i j rest) % 2 ≡ (bits_right i j area old + marks_right i j marks) % 2)
    → HoldMarks area marks old words
held-all area marks rest old words room done told = record {
  room = room;
  odd = λ i j here.
      let none : marks_right i j rest ≡ 0 = ap (marks_right i j) done in
      let all = told i j here in
      omega arith;
}
