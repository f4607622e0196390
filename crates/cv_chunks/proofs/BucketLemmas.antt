-- Lemmas on the buckets of ranges.
use Rattle.std.proofs.Common.{◌≡◌, ◌≢◌, ℕ, ◌+◌, ◌<◌, ◌≤◌, true, false, cond, List, [], ◌∷◌, ◌++◌, length}
use Rattle.std.proofs.Common.{get_or, set, map, sym, ap, refl, ◌∙◌, arith, add-zero, replicate, Vec, ⊎_elim}
use Rattle.std.specs.Prelude.{filter}
use Rattle.std.specs.List.{enumerate_from}
use Rattle.std.proofs.lemmas.List.{length-map, append-nil, map-append, map-set, get_or-map, length-set}
use Rattle.std.proofs.lemmas.List.{get_or-set_same, get_or-set_other, get_or-replicate, length-replicate}
use Rattle.std.proofs.lemmas.List.FromFn.{fill_by_all, length-map-range_with_len, get_or-map-range_with_len}
use Rattle.std.proofs.lemmas.Bool.{cases_lt}
use Rattle.std.proofs.lemmas.Bool.Decides.{nat_tests}
use Rattle.std.proofs.lemmas.List.Elements.{filter-append}
use Rattle.cv_chunks.specs.declared.buckets.RowRange.{RowRange}
use Rattle.cv_chunks.specs.Buckets.{IsEntered, numbers_of, bucket_of, buckets_of, covers}

-- no number is entered yet
pub entered_none : (old : List (List ℕ)) (first number : ℕ) → IsEntered old old first first number
entered_none old first number = record {
  count = refl;
  covered = λ row low high. absurd (omega arith);
  before = λ row low. refl;
  behind = λ row high. refl;
}

-- the number is entered for a row more
pub entered_more : (old now new : List (List ℕ)) (first row number : ℕ) → first ≤ row → row < length now
    → IsEntered old now first row number → new ≡ set now row (get_or now row [] ++ number ∷ [])
    → IsEntered old new first (row + 1) number
entered_more old now new first row number low high is more = record {
  count = ap length more ∙ length-set now row (get_or now row [] ++ number ∷ []) ∙ is.count;
  covered = λ k from to. ⊎_elim (λ below. other k (omega arith) ∙ is.covered k from below)
      (λ above. at_row k (omega arith)) (cases_lt k row);
  before = λ k below. other k (omega arith) ∙ is.before k below;
  behind = λ k above. other k (omega arith) ∙ is.behind k (omega arith);
}
  where
    at : get_or new row [] ≡ get_or now row [] ++ number ∷ []
    at = rw more (get_or-set_same now row (get_or now row [] ++ number ∷ []) [] high)

    at_row : (k : ℕ) → k ≡ row → get_or new k [] ≡ get_or old k [] ++ number ∷ []
    at_row k same = rw same (at ∙ ap (λ bucket. bucket ++ number ∷ []) (is.behind row (omega arith)))

    other : (k : ℕ) → k ≢ row → get_or new k [] ≡ get_or now k []
    other k apart = rw more (get_or-set_other now row k (get_or now row [] ++ number ∷ []) [] apart)

-- the last of the numbered ranges
enumerate_more : {X : Type 0} (n : ℕ) (front : List X) (x : X)
    → enumerate_from n (front ++ x ∷ []) ≡ enumerate_from n front ++ (n + length front, x) ∷ []
enumerate_more n [] x = ap (λ at. (at, x) ∷ []) (sym (add-zero n))
enumerate_more n (y ∷ front) x =
    ap (λ rest. (n, y) ∷ rest) (enumerate_more (n + 1) front x
    ∙ ap (λ at. enumerate_from (n + 1) front ++ (at, x) ∷ []) (omega arith))

-- the numbers of a longer list of ranges
numbers_more : (front : List RowRange) (range : RowRange) (row : ℕ) (last : List (ℕ × RowRange))
    → filter (λ entry. covers row entry.1) ((length front, range) ∷ []) ≡ last
    → bucket_of (front ++ range ∷ []) row ≡ bucket_of front row ++ map (λ entry. entry.0) last
numbers_more front range row last is =
    ap (λ entries. map (λ entry. entry.0) (filter (λ entry. covers row entry.1) entries))
    (enumerate_more 0 front range ∙ ap (λ at. enumerate_from 0 front ++ (at, range) ∷ []) (omega arith))
    ∙ ap (map (λ entry. entry.0)) (filter-append (λ entry. covers row entry.1) (enumerate_from 0 front)
    ((length front, range) ∷ [])
    ∙ ap (λ back. filter (λ entry. covers row entry.1) (enumerate_from 0 front) ++ back) is)
    ∙ map-append (λ entry. entry.0) (filter (λ entry. covers row entry.1) (enumerate_from 0 front)) last

-- a range more puts its number behind the others of a row that it covers
pub bucket_covered : (front : List RowRange) (range : RowRange) (row : ℕ) → covers row range ≡ true
    → bucket_of (front ++ range ∷ []) row ≡ bucket_of front row ++ length front ∷ []
bucket_covered front range row hit =
    numbers_more front range row ((length front, range) ∷ []) (ap (λ b. cond b ((length front, range) ∷ [])
    []) hit)

-- and leaves another row as it is
pub bucket_missed : (front : List RowRange) (range : RowRange) (row : ℕ) → covers row range ≡ false
    → bucket_of (front ++ range ∷ []) row ≡ bucket_of front row
bucket_missed front range row miss =
    numbers_more front range row [] (ap (λ b. cond b ((length front, range) ∷ []) []) miss)
    ∙ append-nil (bucket_of front row)

-- the buckets with a range more
pub buckets_more : (rows : ℕ) (front : List RowRange) (range : RowRange) (old new : List (List ℕ))
    → range.end ≤ rows
    → old ≡ buckets_of rows front → IsEntered old new range.first range.end (length front)
    → new ≡ buckets_of rows (front ++ range ∷ [])
buckets_more rows front range old new within was is =
    fill_by_all (bucket_of (front ++ range ∷ [])) new rows []
    (is.count ∙ ap length was ∙ length-map-range_with_len (bucket_of front) 0 rows) each
  where
    here : (row : ℕ) → row < rows → get_or old row [] ≡ bucket_of front row
    here row low = ap (λ buckets. get_or buckets row []) was
        ∙ get_or-map-range_with_len (bucket_of front) 0 rows row row [] low (omega arith)

    missed : (row : ℕ) → row < rows → get_or new row [] ≡ get_or old row [] → covers row range ≡ false
        → get_or new row [] ≡ bucket_of (front ++ range ∷ []) row
    missed row low same miss = same ∙ here row low ∙ sym (bucket_missed front range row miss)

    each : (row : ℕ) → row < rows → get_or new row [] ≡ bucket_of (front ++ range ∷ []) row
    each row low = ⊎_elim
        (λ before. missed row low (is.before row before) (grind (arith, nat_tests)))
        (λ from. ⊎_elim
        (λ inside. is.covered row from inside ∙ ap (λ bucket. bucket ++ length front ∷ []) (here row low)
        ∙ sym (bucket_covered front range row (grind (arith, nat_tests))))
        (λ behind. missed row low (is.behind row behind) (grind (arith, nat_tests)))
        (cases_lt row range.end))
        (cases_lt row range.first)

-- no range, no number
pub buckets_none : (rows : ℕ) → replicate rows [] ≡ buckets_of rows []
buckets_none rows =
    fill_by_all (bucket_of []) (replicate rows []) rows [] (length-replicate rows []) (λ row low.
    get_or-replicate rows row [] [] low)

-- a number put behind those of one bucket
pub bucket_pushed : {Y : Type 0} (buckets : List (Vec ℕ Y)) (row number : ℕ) (was new : Vec ℕ Y)
    → row < length buckets
    → was ≡ get_or buckets row was → new.items ≡ was.items ++ number ∷ []
    → map (λ bucket. bucket.items) (set buckets row new)
    ≡ set (map (λ bucket. bucket.items) buckets) row (get_or (map (λ bucket. bucket.items) buckets) row []
    ++ number ∷ [])
bucket_pushed buckets row number was new low read pushed =
    map-set (λ bucket. bucket.items) buckets row new
    ∙ ap (set (map (λ bucket. bucket.items) buckets) row)
    (pushed ∙ ap (λ bucket. bucket ++ number ∷ [])
    (ap (λ bucket. bucket.items) read ∙ sym (get_or-map (λ bucket. bucket.items) buckets row was [] low)))

-- there are as many buckets as rows
pub bucket_count : {Y Z : Type 0} (buckets : Vec (Vec ℕ Y) Z) (rows : ℕ) (ranges : List RowRange)
    → numbers_of buckets ≡ buckets_of rows ranges
    → length buckets.items ≡ rows
bucket_count buckets rows ranges are =
    sym (length-map buckets.items (λ bucket. bucket.items)) ∙ ap length are
    ∙ length-map-range_with_len (bucket_of ranges) 0 rows
