-- What is read of a layer has no more than there is room for, and is of its source's kind.
use Rattle.std.proofs.Common.{◌≡◌, ◌∙◌, ap, sym, subst, refl, ℕ, zero, suc, ◌+◌, ◌*◌, ◌<◌, ◌≤◌, ◌==◌, nat_lt, Bool, true, false, not}
use Rattle.std.proofs.Common.{◌||◌, if◌then◌else◌, List, [], ◌∷◌, ◌++◌, length, sum_by, All, append_assoc, append-nil, Option, Some, None}
use Rattle.std.proofs.Common.{Ok, arith, bytes_eq, cond}
use Rattle.std.proofs.lemmas.Bool.Decides.{nat_tests}
use Rattle.std.proofs.lemmas.List.{length-map}
use Rattle.std.proofs.lemmas.List.Edits.{length-remove}
use Rattle.std.proofs.lemmas.List.Elements.{All-append}
use Rattle.std.proofs.lemmas.List.Sums.{sum_by-cons}
use Rattle.std.specs.List.{position_from}
use Rattle.std.specs.Option.{option_map_or, unwrap_or}
use Rattle.cv_model.specs.declared.feature.Feature.{Feature}
use Rattle.cv_model.specs.declared.room.Room.{Room}
use Rattle.cv_model.specs.Edits.{feature_vertices}
use Rattle.cv_model.specs.Features.{FeatureTable}
use Rattle.cv_model.specs.Geometries.{vertices_of}
use Rattle.cv_model.specs.Grids.{CellGrid}
use Rattle.cv_dtext.specs.declared.cell.Cell.{Cell}
use Rattle.cv_dtext.specs.declared.cell.Cell.TheVariants.{Empty, Geometry, Refused}
use Rattle.cv_dtext.specs.declared.options.TextOptions.{TextOptions}
use Rattle.cv_dtext.specs.declared.options.TextError.TheVariants.{Uneven, NotUtf8, TooMany}
use Rattle.cv_dtext.specs.Cell.{geometry_in, vertices_in}
use Rattle.cv_dtext.specs.Records.{Fields, are_texts}
use Rattle.cv_dtext.specs.Refusals.{is_past, pass, shown, vertices_in_all, values_in_all, features_of, IsRead}
use Rattle.cv_dtext.specs.Table.{cell_at, others, feature_of, features_from, table_of}
use Rattle.cv_dtext.proofs.FirstLemmas.{found_exactly}
use Rattle.cv_grid.specs.Answers.{grid_of}
use Rattle.cv_grid.proofs.AnswerLemmas.{grid_spelt}

-- ---- the records of a text

-- how many values a feature has
abbrev pub values_in : Feature → ℕ
values_in feature = length feature.values

-- these records are as wide as the header, and there is room for their features
record Kept (room : Room) (place width : ℕ) (records : List Fields) : Type 0 where
  even : All (λ (fields : Fields). length fields ≡ width) records
  fits : pass room place records ≡ false

-- each of these records shows nothing behind those before it
abbrev Silent : Room → ℕ → ℕ → List Fields → Type 0
Silent room place width records = (front rest : List Fields) (fields : Fields) → records ≡ front ++ fields ∷ rest
    → shown room place width front fields ≡ None

none_kept : (room : Room) (place width : ℕ) → Kept room place width []
none_kept room place width = record { even = λ k d h. absurd (omega arith); fits = grind (arith, nat_tests) }

shown_none : (even texts past : Bool) (n : ℕ)
    → (if not even then Some (Uneven n) else if not texts then Some (NotUtf8 n) else if past then Some TooMany else None) ≡ None
    → (even ≡ true) × (past ≡ false)
shown_none false texts past n e = absurd cc
shown_none true false past n e = absurd cc
shown_none true true true n e = absurd cc
shown_none true true false n e = (refl, refl)

one_is : (fields : Fields) (width : ℕ) → length fields ≡ width → All (λ (f : Fields). length f ≡ width) (fields ∷ [])
one_is fields width even zero d h = even
one_is fields width even (suc k) d h = absurd (omega arith)

-- one record more
kept_more : (room : Room) (place width : ℕ) (before : List Fields) (fields : Fields) → Kept room place width before
    → shown room place width before fields ≡ None → Kept room place width (before ++ fields ∷ [])
kept_more room place width before fields kept silent =
    let s = shown_none (length fields == width) (are_texts fields) (pass room place (before ++ fields ∷ [])) (length before + 1) silent in
    let even : length fields ≡ width = let e = s.0 in grind (arith, nat_tests) in
    record { even = All-append (λ (f : Fields). length f ≡ width) before (fields ∷ []) kept.even (one_is fields width even); fits = s.1 }

kept_from : (room : Room) (place width : ℕ) (before records : List Fields) → Kept room place width before
    → Silent room place width (before ++ records) → Kept room place width (before ++ records)
kept_from room place width before [] kept silent = subst (Kept room place width) (sym (append-nil before)) kept
kept_from room place width before (fields ∷ records) kept silent =
    let same = append_assoc before (fields ∷ []) records in
    subst (Kept room place width) same
    (kept_from room place width (before ++ fields ∷ []) records
    (kept_more room place width before fields kept (silent before records fields refl))
    (subst (Silent room place width) (sym same) silent))

-- ---- the features of records

length_features : (place n : ℕ) (records : List Fields) → length (features_from place n records) ≡ length records
length_features place n [] = refl
length_features place n (fields ∷ records) = ap suc (length_features place (n + 1) records)

cell_vertices : (cell : Cell) → option_map_or vertices_of (geometry_in cell) 0 ≡ vertices_in cell
cell_vertices Empty = refl
cell_vertices (Geometry g) = refl
cell_vertices (Refused e) = refl

sum_vertices : (place n : ℕ) (records : List Fields)
    → sum_by feature_vertices (features_from place n records) ≡ vertices_in_all place records
sum_vertices place n [] = refl
sum_vertices place n (fields ∷ records) =
    sum_by-cons feature_vertices (feature_of place n fields) (features_from place (n + 1) records)
    ∙ ap (λ k. k + sum_by feature_vertices (features_from place (n + 1) records)) (cell_vertices (cell_at place fields))
    ∙ ap (λ k. vertices_in (cell_at place fields) + k) (sum_vertices place (n + 1) records)
    ∙ sym (sum_by-cons (λ (f : Fields). vertices_in (cell_at place f)) fields records)

sum_values : (place n : ℕ) (records : List Fields)
    → sum_by values_in (features_from place n records) ≡ values_in_all place records
sum_values place n [] = refl
sum_values place n (fields ∷ records) =
    sum_by-cons values_in (feature_of place n fields) (features_from place (n + 1) records)
    ∙ ap (λ k. length (others place fields) + k) (sum_values place (n + 1) records)
    ∙ sym (sum_by-cons (λ (f : Fields). length (others place f)) fields records)

-- the place of a column is one of the header's
place_step : (b : Bool) (n count : ℕ) (rest : Option ℕ) (place : ℕ) → cond b (Some n) rest ≡ Some place
    → (rest ≡ Some place → place < n + 1 + count) → place < n + suc count
place_step true n count rest place e more = let is : n ≡ place = cc in omega arith
place_step false n count rest place e more = let m = more e in omega arith

place_from : (test : List ℕ → Bool) (n : ℕ) (header : Fields) (place : ℕ) → position_from test n header ≡ Some place
    → place < n + length header
place_from test n [] place e = absurd cc
place_from test n (field ∷ header) place e =
    place_step (test field) n (length header) (position_from test (n + 1) header) place e (place_from test (n + 1) header place)

-- as many values as columns, in each record
count_values : (place columns width : ℕ) (records : List Fields) → place < width → columns + 1 ≡ width
    → All (λ (fields : Fields). length fields ≡ width) records
    → values_in_all place records ≡ length records * columns
count_values place columns width [] within wide even = omega arith
count_values place columns width (fields ∷ records) within wide even =
    let here : length fields ≡ width = even zero [] (omega arith) in
    let values : length (others place fields) + 1 ≡ length fields = length-remove fields place (omega arith) in
    let more = count_values place columns width records within wide (λ k d h. even (suc k) d (omega arith)) in
    let one : length (others place fields) ≡ columns = omega arith in
    let sum : length (fields ∷ records) * columns ≡ columns + length records * columns = grind arith in
    sum_by-cons (λ (f : Fields). length (others place f)) fields records
    ∙ ap (λ n. n + values_in_all place records) one ∙ ap (λ n. columns + n) more ∙ sym sum

-- ---- a text

-- a table has no more than there is room for, and a value for each column of each feature
pub record IsWithin (room : Room) (table : FeatureTable) : Type 0 where
  pub features : length table.features ≤ room.features
  pub vertices : sum_by feature_vertices table.features ≤ room.vertices
  pub values : sum_by values_in table.features ≤ room.values
  pub even : sum_by values_in table.features ≡ length table.features * length table.columns

not_past : (room : Room) (features vertices values : ℕ) → is_past room features vertices values ≡ false
    → (features ≤ room.features) × (vertices ≤ room.vertices) × (values ≤ room.values)
not_past room features vertices values e = (grind (arith, nat_tests), grind (arith, nat_tests), grind (arith, nat_tests))

table_within : (room : Room) (place : ℕ) (header : Fields) (records : List Fields) → place < length header
    → Kept room place (length header) records → IsWithin room (table_of place header records)
table_within room place header records within kept =
    let past = not_past room (length records) (vertices_in_all place records) (values_in_all place records) kept.fits in
    let many = length_features place 1 records in
    let vertices = sum_vertices place 1 records in
    let values = sum_values place 1 records in
    let columns : length (others place header) + 1 ≡ length header = length-remove header place within in
    record {
      features = omega (arith, past.0, many);
      vertices = omega (arith, past.1, vertices);
      values = omega (arith, past.2, values);
      even = values ∙ count_values place (length (others place header)) (length header) records within columns kept.even
          ∙ ap (λ n. n * length (others place header)) (sym many);
    }

read_within : (options : TextOptions) (bytes : List ℕ) (table : FeatureTable) → IsRead options bytes table
    → IsWithin options.room table
read_within options bytes table r =
    let silent : Silent options.room r.place (length r.header) r.records = λ front rest fields split.
    ap (λ (o : Option ℕ). shown options.room (unwrap_or o 0) (length r.header) front fields) (sym r.column)
    ∙ r.calm (r.header ∷ front) rest fields (ap (λ (l : List Fields). r.header ∷ l) split) in
    subst (IsWithin options.room) (sym r.made)
    (table_within options.room r.place r.header r.records (let p = place_from (bytes_eq options.geometry) 0 r.header r.place r.column in omega arith)
    (kept_from options.room r.place (length r.header) [] r.records (none_kept options.room r.place (length r.header)) silent))

-- the features of a text are within the room
pub text_within : (options : TextOptions) (bytes : List ℕ) (table : FeatureTable) → features_of options bytes ≡ Ok table
    → IsWithin options.room table
text_within options bytes table e = read_within options bytes table ((found_exactly options bytes table).0 e)

-- ---- a grid

not_large : (room cells : ℕ) (left bottom : Bool) → (nat_lt room cells || left || bottom) ≡ false → cells ≤ room
not_large room cells left bottom e = grind (arith, nat_tests)

-- the cells of a grid are within the room
pub grid_within : (room : ℕ) (text : List ℕ) (grid : CellGrid) → grid_of room text ≡ Ok grid → length grid.cells ≤ room
grid_within room text grid e =
    let s = (grid_spelt room text grid).0 e in
    let cells : length grid.cells ≡ length s.decimals = ap (λ (g : CellGrid). length g.cells) s.grid_is ∙ length-map s.decimals _ in
    let few = not_large room (s.layout.cols * s.layout.rows) _ _ s.laid.fits in
    omega (arith, cells, s.whole, few)
