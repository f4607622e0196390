-- What a scan holds: marks that are put one after the other, by rows, in a list and in a plane.
use Rattle.std.proofs.Common.{◌≡◌, ◌∙◌, sym, ap, refl, ℕ, ◌+◌, ◌-◌, ◌%◌, ◌<◌, ◌≤◌, nat_lt, ◌==◌, inl, inr, Bool, true, false, length, cond, ◌&&◌, ◌||◌, if◌then◌else◌, List, [], ◌∷◌, ◌++◌, All, arith}
use Rattle.std.proofs.lemmas.Bool.Decides.{nat_tests}
use Rattle.std.proofs.lemmas.List.Elements.{All-nil, All-cons, All-append}
use Rattle.cv_geom.specs.Falls.{FallsAt}
use Rattle.cv_model.specs.declared.span.Span.{Span}
use Rattle.cv_model.specs.Positions.{Position, doubled}
use Rattle.cv_model.specs.Views.{PixelGrid, centre_of}
use Rattle.cv_model.specs.Polygons.{is_low, is_crossed}
use Rattle.cv_geom.specs.declared.runs.Run.{Run}
use Rattle.cv_geom.specs.declared.runs.Area.{Area}
use Rattle.cv_geom.specs.Runs.{is_on_any, IsIn, Adds}
use Rattle.cv_scan.specs.declared.marks.Mark.{Mark}
use Rattle.cv_scan.specs.declared.scratch.Scratch.{Scratch}
use Rattle.cv_scan.specs.declared.pairs.Pair.{Pair}
use Rattle.cv_scan.specs.Marks.{is_right, marks_right, MarkIn}
use Rattle.cv_scan.specs.Planes.{HoldMarks, bit_of, bits_right, width_of}
use Rattle.cv_scan.specs.Pairs.{PairsIn, PutsMark, pairs_right}
use Rattle.cv_scan.specs.Held.{AddsMarks, IsHeld, PairsMarked, held_right, crossed_before}
use Rattle.cv_scan.proofs.MarkLemmas.{level-crossed, right-append, right-cons, to_count}
use Rattle.cv_scan.proofs.PlaneLemmas.{empty-none, right-same}
use Rattle.cv_scan.proofs.PairLemmas.{empty-right, no-pairs}

-- ---- marks that are put one after the other

-- what is still to be marked makes what was marked whole
pub record StillMarks (crossed rest : ℕ → ℕ → ℕ) (area : Area) (old now : Scratch) : Type 0 where
  pub held : IsHeld area now
  pub counted : (i j : ℕ) → IsIn area i j
      → (held_right i j area now + rest i j) % 2 ≡ (held_right i j area old + crossed i j) % 2

pub still-start :
    (crossed rest : ℕ → ℕ → ℕ) (area : Area) (s : Scratch) → IsHeld area s → ((i j : ℕ) → rest i j ≡ crossed i j)
    → StillMarks crossed rest area s s
still-start crossed rest area s held same = record {
  held = held;
  counted = λ i j is. ap (λ n. (held_right i j area s + n) % 2) (same i j);
}

pub still-done :
    (crossed rest : ℕ → ℕ → ℕ) (area : Area) (old now : Scratch) → ((i j : ℕ) → rest i j ≡ 0)
    → StillMarks crossed rest area old now → AddsMarks crossed area old now
still-done crossed rest area old now none told = record {
  held = told.held;
  counted = λ i j is. let no = none i j in let here = told.counted i j is in omega arith;
}

pub still-step :
    (crossed here rest later : ℕ → ℕ → ℕ) (area : Area) (old now new : Scratch)
    → ((i j : ℕ) → rest i j ≡ here i j + later i j) → StillMarks crossed rest area old now
    → AddsMarks here area now new → StillMarks crossed later area old new
still-step crossed here rest later area old now new split told added = record {
  held = added.held;
  counted = λ i j is.
      let parts = split i j in
      let before = told.counted i j is in
      let more = added.counted i j is in
      omega arith;
}

-- ---- a mark more, and the list in the plane

-- nothing is put
pub adds-none : (area : Area) (s : Scratch) → IsHeld area s → AddsMarks (λ i j. 0) area s s
adds-none area s held = record { held = held; counted = λ i j is. ap (λ n. n % 2) (zero-more (held_right i j area s)) }
  where
    zero-more : (n : ℕ) → n ≡ n + 0
    zero-more n = omega arith

-- a mark is put with that of its row
pub mark-paired :
    (area : Area) (mark : Mark) (old new : Scratch) → MarkIn area mark → IsHeld area old
    → PutsMark old.first mark old.pairs.items new.pairs.items → new.first ≡ old.first
    → new.marks.items ≡ old.marks.items → new.bits.items ≡ old.bits.items
    → AddsMarks (λ i j. if is_right i j mark then 1 else 0) area old new
mark-paired area mark old new here_in held put first list plane = record {
  held = record {
    pairs = record {
      north = rw first held.pairs.north;
      south = omega (arith, put.length, first, held.pairs.south);
      east = put.reaches area.columns.end here_in.east held.pairs.east;
    };
    within = rw list held.within;
    room = rw plane held.room;
  };
  counted = λ i j is.
      let more = put.right i j in
      let from = ap (λ n. pairs_right i j n new.pairs.items) first in
      let marks = ap (marks_right i j) list in
      let bits = ap (bits_right i j area) plane in
      ap (λ n. n % 2) (omega arith);
}

-- a mark is put in the list, once there is room
pub mark-put :
    (area : Area) (mark : Mark) (old now new : Scratch) → MarkIn area mark → AddsMarks (λ i j. 0) area old now
    → new.marks.items ≡ now.marks.items ++ mark ∷ [] → new.bits.items ≡ now.bits.items
    → new.first ≡ now.first → new.pairs.items ≡ now.pairs.items
    → AddsMarks (λ i j. if is_right i j mark then 1 else 0) area old new
mark-put area mark old now new here_in room put same first pairs = record {
  held = record {
    pairs = rw (first, pairs) room.held.pairs;
    within =
        rw put
        (All-append (MarkIn area) now.marks.items (mark ∷ []) room.held.within
        (All-cons (MarkIn area) mark [] here_in (All-nil (MarkIn area))));
    room = rw same room.held.room;
  };
  counted = λ i j is.
      let split = ap (marks_right i j) put ∙ right-append i j now.marks.items (mark ∷ []) in
      let one = right-cons i j mark [] in
      let bits = ap (bits_right i j area) same in
      let rows = ap (λ n. pairs_right i j n new.pairs.items) first ∙ ap (pairs_right i j now.first) pairs in
      let before = room.counted i j is in
      let here = counts (is_right i j mark) in
      omega arith;
}
  where
    counts : (b : Bool) → ◌≡◌ {A = ℕ} (cond b 1 0) (if b then 1 else 0)
    counts true = refl
    counts false = refl

-- the marks of the list are brought into the plane
pub list-emptied :
    (area : Area) (old new : Scratch) (plane : List ℕ) → PairsIn area old.first old.pairs.items
    → ((place : ℕ) → bit_of plane place ≡ bit_of old.bits.items place)
    → HoldMarks area old.marks.items plane new.bits.items → new.marks.items ≡ []
    → new.first ≡ old.first → new.pairs.items ≡ old.pairs.items
    → AddsMarks (λ i j. 0) area old new
list-emptied area old new plane lies same changed none first pairs = record {
  held = record { pairs = rw (first, pairs) lies; within = rw none (All-nil (MarkIn area)); room = inr changed.room };
  counted = λ i j is.
      let odd = changed.odd i j is in
      let bits = right-same plane old.bits.items area j (i - area.columns.from) (width_of area) same in
      let empty = ap (marks_right i j) none in
      let rows = ap (λ n. pairs_right i j n new.pairs.items) first ∙ ap (pairs_right i j old.first) pairs in
      omega arith;
}

-- the marks by rows are brought into the list
pub pairs-emptied :
    (area : Area) (old new : Scratch) → IsHeld area old → All (MarkIn area) new.marks.items
    → ((i j : ℕ) → IsIn area i j
    → marks_right i j new.marks.items ≡ marks_right i j old.marks.items + pairs_right i j old.first old.pairs.items)
    → new.first ≡ old.first → new.pairs.items ≡ [] → new.bits.items ≡ old.bits.items
    → AddsMarks (λ i j. 0) area old new
pairs-emptied area old new held within listed first none plane = record {
  held = record {
    pairs = rw (first, none) (no-pairs area old.first old.pairs.items held.pairs);
    within = within;
    room = rw plane held.room;
  };
  counted = λ i j is.
      let told = listed i j is in
      let rows = ap (pairs_right i j new.first) none ∙ empty-right i j new.first in
      let bits = ap (bits_right i j area) plane in
      ap (λ n. n % 2) (omega arith);
}

-- ---- the marks of an edge, row by row

plus-zero : (n k : ℕ) → k ≡ 0 → n % 2 ≡ (n + k) % 2
plus-zero n k none = ap (λ m. m % 2) (omega arith)

-- the crossings of one row more
crossed-next :
    (v : PixelGrid) (a b : Position) (row column i j : ℕ)
    → is_crossed (centre_of v i row) (a, b) ≡ nat_lt i column
    → crossed_before v a b (row + 1) i j
    ≡ crossed_before v a b row i j + (if is_right i j (record { row = row; column = column }) then 1 else 0)
crossed-next v a b row column i j crossed = pick (j == row) (nat_lt j row) refl refl
  where
    plus-none : (b : Bool) → (if b then 1 else 0) ≡ 0 + (if b then 1 else 0)
    plus-none true = omega arith
    plus-none false = omega arith

    pick :
        (here before : Bool) → (j == row) ≡ here → nat_lt j row ≡ before
        → (if nat_lt j (row + 1) then (if is_crossed (centre_of v i j) (a, b) then 1 else 0) else 0)
        ≡ (if before then (if is_crossed (centre_of v i j) (a, b) then 1 else 0) else 0)
        + (if here && nat_lt i column then 1 else 0)
    pick true true same less = absurd (grind (arith, nat_tests))
    pick true false same less =
        let at : j ≡ row = grind (arith, nat_tests) in
        let more : nat_lt j (row + 1) ≡ true = grind (arith, nat_tests) in
        let told : is_crossed (centre_of v i j) (a, b) ≡ nat_lt i column =
        ap (λ n. is_crossed (centre_of v i n) (a, b)) at ∙ crossed in
        rw (more, told) (plus-none (nat_lt i column))
    pick false true same less =
        let more : nat_lt j (row + 1) ≡ true = grind (arith, nat_tests) in
        rw more (omega arith)
    pick false false same less =
        let more : nat_lt j (row + 1) ≡ false = grind (arith, nat_tests) in
        rw more (omega arith)

-- one row more
pub marks-row :
    (v : PixelGrid) (a b : Position) (area : Area) (row column : ℕ) (first old new : Scratch)
    → FallsAt (λ i. is_crossed (centre_of v i row) (a, b)) area.columns.from area.columns.end column
    → AddsMarks (crossed_before v a b row) area first old
    → AddsMarks (λ i j. if is_right i j (record { row = row; column = column }) then 1 else 0) area old new
    → AddsMarks (crossed_before v a b (row + 1)) area first new
marks-row v a b area row column first old new falls before added = record {
  held = added.held;
  counted = λ i j here.
      let told = before.counted i j here in
      let more = added.counted i j here in
      let step = crossed-next v a b row column i j (falls.falls i here.west here.east) in
      omega arith;
}

-- ---- the marks of an edge with those of their rows

-- none yet
pub pairs-none :
    (v : PixelGrid) (a b : Position) (area : Area) (top row : ℕ) (pairs : List Pair)
    → PairsMarked v a b area top (record { from = row; end = row }) pairs pairs
pairs-none v a b area top row pairs = record { length = refl; right = λ i j here. refl; reaches = λ all. all }

-- one row more
pub pairs-row :
    (v : PixelGrid) (a b : Position) (area : Area) (top from row column : ℕ) (old now new : List Pair)
    → FallsAt (λ i. is_crossed (centre_of v i row) (a, b)) area.columns.from area.columns.end column
    → PairsMarked v a b area top (record { from = from; end = row }) old now
    → PutsMark top (record { row = row; column = column }) now new
    → PairsMarked v a b area top (record { from = from; end = row + 1 }) old new
pairs-row v a b area top from row column old now new falls before put = record {
  length = put.length ∙ before.length;
  right = λ i j here.
      let told = before.right i j here in
      let more = put.right i j in
      let step = crossed-next v a b row column i j (falls.falls i here.west here.east) in
      omega arith;
  reaches = λ all. put.reaches area.columns.end falls.high_in (before.reaches all);
}

-- what a scan holds then
pub pairs-held :
    (v : PixelGrid) (a b : Position) (area : Area) (rows : Span) (old new : Scratch) → IsHeld area old
    → PairsMarked v a b area old.first rows old.pairs.items new.pairs.items → new.first ≡ old.first
    → new.marks.items ≡ old.marks.items → new.bits.items ≡ old.bits.items → IsHeld area new
pairs-held v a b area rows old new held put first list plane = record {
  pairs = record {
    north = rw first held.pairs.north;
    south = omega (arith, put.length, first, held.pairs.south);
    east = put.reaches held.pairs.east;
  };
  within = rw list held.within;
  room = rw plane held.room;
}

pub pairs-on :
    (v : PixelGrid) (a b : Position) (area : Area) (rows : Span) (start old new : Scratch)
    → PairsMarked v a b area old.first rows old.pairs.items new.pairs.items → new.first ≡ old.first
    → new.marks.items ≡ old.marks.items → new.bits.items ≡ old.bits.items
    → AddsMarks (crossed_before v a b rows.from) area start old → AddsMarks (crossed_before v a b rows.end) area start new
pairs-on v a b area rows start old new put first list plane before = record {
  held = pairs-held v a b area rows old new before.held put first list plane;
  counted = λ i j here.
      let more = put.right i j here in
      let from = ap (λ n. pairs_right i j n new.pairs.items) first in
      let marks = ap (marks_right i j) list in
      let bits = ap (bits_right i j area) plane in
      let told = before.counted i j here in
      omega arith;
}

-- nothing is marked before the first row
pub marks-none :
    (v : PixelGrid) (a b : Position) (area : Area) (row : ℕ) (s : Scratch) → IsHeld area s
    → ((j : ℕ) → area.rows.from ≤ j → j < row
    → is_low (centre_of v 0 j) (doubled a) ≡ is_low (centre_of v 0 j) (doubled b))
    → AddsMarks (crossed_before v a b row) area s s
marks-none v a b area row s held level = record {
  held = held;
  counted = λ i j here. pick i j (nat_lt j row) refl here.north;
}
  where
    pick :
        (i j : ℕ) (t : Bool) → nat_lt j row ≡ t → area.rows.from ≤ j
        → held_right i j area s % 2
        ≡ (held_right i j area s + (if t then (if is_crossed (centre_of v i j) (a, b) then 1 else 0) else 0)) % 2
    pick i j true less north =
        let no = level-crossed v i j a b (level j north (grind (arith, nat_tests))) in
        plus-zero (held_right i j area s) (to_count (is_crossed (centre_of v i j) (a, b))) (ap to_count no)
    pick i j false less north = plus-zero (held_right i j area s) 0 refl

-- nor behind the last
pub marks-all :
    (v : PixelGrid) (a b : Position) (area : Area) (row : ℕ) (old new : Scratch)
    → ((j : ℕ) → row ≤ j → j < area.rows.end
    → is_low (centre_of v 0 j) (doubled a) ≡ is_low (centre_of v 0 j) (doubled b))
    → AddsMarks (crossed_before v a b row) area old new
    → AddsMarks (λ i j. if is_crossed (centre_of v i j) (a, b) then 1 else 0) area old new
marks-all v a b area row old new level told = record {
  held = told.held;
  counted = λ i j here.
      told.counted i j here ∙ ap (λ n. (held_right i j area old + n) % 2) (pick i j (nat_lt j row) refl here.south);
}
  where
    pick :
        (i j : ℕ) (t : Bool) → nat_lt j row ≡ t → j < area.rows.end
        → (if t then to_count (is_crossed (centre_of v i j) (a, b)) else 0)
        ≡ to_count (is_crossed (centre_of v i j) (a, b))
    pick i j true less south = refl
    pick i j false less south =
        let no = level-crossed v i j a b (level j (grind (arith, nat_tests)) south) in
        sym (ap to_count no)

-- ---- what is inside

-- a scan that holds nothing
pub none-held :
    (area : Area) (s : Scratch) → PairsIn area s.first s.pairs.items → s.marks.items ≡ [] → s.bits.items ≡ []
    → IsHeld area s
none-held area s lies list plane = record { pairs = lies; within = rw list (All-nil (MarkIn area)); room = inl plane }

pub none-right :
    (area : Area) (s : Scratch) (i j : ℕ) → pairs_right i j s.first s.pairs.items ≡ 0 → s.marks.items ≡ []
    → s.bits.items ≡ [] → held_right i j area s ≡ 0
none-right area s i j pairs list plane =
    let first = ap (marks_right i j) list in
    let second = ap (bits_right i j area) plane ∙ empty-none area j (i - area.columns.from) (width_of area) in
    omega arith

-- no words are an empty plane
pub no-words : (words : List ℕ) → length words ≡ 0 → words ≡ []
no-words [] none = refl
no-words (word ∷ words) none = absurd (omega arith)

-- nor are no marks a list of some
pub no-marks : (marks : List Mark) → length marks ≡ 0 → marks ≡ []
no-marks [] none = refl
no-marks (mark ∷ marks) none = absurd (omega arith)

-- where there is neither list nor plane, the rows tell all
pub rows-alone :
    (area : Area) (s : Scratch) (i j : ℕ) → s.marks.items ≡ [] → s.bits.items ≡ []
    → held_right i j area s ≡ pairs_right i j s.first s.pairs.items
rows-alone area s i j list plane =
    let none = ap (bits_right i j area) plane ∙ empty-none area j (i - area.columns.from) (width_of area) in
    let no = ap (marks_right i j) list in
    omega arith

-- where there are neither rows nor plane, the list does
pub list-alone :
    (area : Area) (s : Scratch) (i j : ℕ) → s.pairs.items ≡ [] → s.bits.items ≡ []
    → held_right i j area s ≡ marks_right i j s.marks.items
list-alone area s i j pairs plane =
    let none = ap (bits_right i j area) plane ∙ empty-none area j (i - area.columns.from) (width_of area) in
    let no = ap (pairs_right i j s.first) pairs ∙ empty-right i j s.first in
    omega arith

-- and where there are neither rows nor list, the plane does, in the number's last bit
pub plane-alone :
    (area : Area) (old new : Scratch) (i j : ℕ) → IsIn area i j → AddsMarks (λ i j. 0) area old new
    → new.pairs.items ≡ [] → new.marks.items ≡ [] → bits_right i j area new.bits.items % 2 ≡ held_right i j area old % 2
plane-alone area old new i j is same pairs list =
    let first = ap (marks_right i j) list in
    let no = ap (pairs_right i j new.first) pairs ∙ empty-right i j new.first in
    let told = same.counted i j is in
    omega arith

-- runs that are added by a test are added by one that answers the same
pub adds-alike :
    (test other : ℕ → ℕ → Bool) (area : Area) (old new : List Run)
    → ((i j : ℕ) → IsIn area i j → test i j ≡ other i j) → Adds test area old new → Adds other area old new
adds-alike test other area old new same added = record {
  within = added.within;
  covered = λ i j here. added.covered i j here ∙ ap (λ t. is_on_any i j old || t) (same i j here);
}

-- marks of crossings that were put with none tell what is inside
pub marks-inside :
    (test : ℕ → ℕ → Bool) (crossed : ℕ → ℕ → ℕ) (area : Area) (first s : Scratch) (old new : List Run)
    → ((i j : ℕ) → test i j ≡ (crossed i j % 2 == 1)) → ((i j : ℕ) → held_right i j area first ≡ 0)
    → AddsMarks crossed area first s → Adds (λ i j. held_right i j area s % 2 == 1) area old new
    → Adds test area old new
marks-inside test crossed area first s old new told empty marked added =
    adds-alike (λ i j. held_right i j area s % 2 == 1) test area old new
    (λ i j here.
    let none = empty i j in
    let count = marked.counted i j here in
    let same : held_right i j area s % 2 ≡ crossed i j % 2 = omega arith in
    ap (λ n. n == 1) same ∙ sym (told i j))
    added
