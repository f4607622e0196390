-- The features of records, one more at a time; and that they make a table.
use Rattle.std.proofs.Common.{◌≡◌, ◌∙◌, ap, sym, ℕ, zero, suc, ◌+◌, ◌<◌, false, nat_eq, List, [], ◌∷◌, ◌++◌}
use Rattle.std.proofs.Common.{length, All, append_assoc, arith}
use Rattle.std.proofs.lemmas.Bool.Decides.{nat_tests}
use Rattle.std.proofs.lemmas.List.{append-nil}
use Rattle.std.proofs.lemmas.List.Sums.{sum_by-append}
use Rattle.std.proofs.lemmas.List.Edits.{length-remove}
use Rattle.std.specs.List.{AllByRecursion, IsDistinct}
use Rattle.std.specs.Option.{option_to_list}
use Rattle.cv_model.specs.declared.feature.Feature.{Feature}
use Rattle.cv_model.specs.Features.{ids_of, IsFeatureTable}
use Rattle.cv_dtext.specs.Records.{Fields}
use Rattle.cv_dtext.specs.Cell.{note_on, vertices_in}
use Rattle.cv_dtext.specs.Table.{cell_at, others, feature_of, features_from, notes_from, table_of}
use Rattle.cv_dtext.specs.Refusals.{vertices_in_all, values_in_all}
use Rattle.cv_dtext.specs.Gathered.{gathered_of, with_record}

features_more : (place n : ℕ) (records : List Fields) (fields : Fields)
    → features_from place n (records ++ fields ∷ [])
    ≡ features_from place n records ++ feature_of place (n + length records) fields ∷ []
features_more place n [] fields =
    let e : n ≡ n + 0 = omega arith in ap (λ k. feature_of place k fields ∷ []) e
features_more place n (first ∷ records) fields =
    let e : (n + 1) + length records ≡ n + length (first ∷ records) = omega arith in
    ap (λ more. feature_of place n first ∷ more) (features_more place (n + 1) records fields)
    ∙ ap (λ k. feature_of place n
    first ∷ (features_from place (n + 1) records ++ feature_of place k fields ∷ [])) e

notes_more : (place n : ℕ) (records : List Fields) (fields : Fields)
    → notes_from place n (records ++ fields ∷ [])
    ≡ notes_from place n records ++ option_to_list (note_on (n + length records) (cell_at place fields))
notes_more place n [] fields =
    let e : n ≡ n + 0 = omega arith in
    append-nil _ ∙ ap (λ k. option_to_list (note_on k (cell_at place fields))) e
notes_more place n (first ∷ records) fields =
    let e : (n + 1) + length records ≡ n + length (first ∷ records) = omega arith in
    let first = option_to_list (note_on n (cell_at place first)) in
    ap (λ more. first ++ more) (notes_more place (n + 1) records fields)
    ∙ sym (append_assoc first (notes_from place (n + 1) records) _)
    ∙ ap (λ k. (first ++ notes_from place (n + 1) records) ++ option_to_list
    (note_on k (cell_at place fields))) e

-- what is gathered with one record more
pub gathered_more : (place : ℕ) (records : List Fields) (fields : Fields)
    → gathered_of place (records ++ fields ∷ [])
    ≡ with_record place (length records + 1) fields (gathered_of place records)
gathered_more place records fields =
    let e : 1 + length records ≡ length records + 1 = omega arith in
    let features = features_more place 1 records fields
    ∙ ap (λ k. features_from place 1 records ++ feature_of place k fields ∷ []) e in
    let notes = notes_more place 1 records fields
    ∙ ap (λ k. notes_from place 1 records ++ option_to_list (note_on k (cell_at place fields))) e in
    let vertices : vertices_in_all place (records ++ fields ∷ [])
    ≡ vertices_in_all place records + vertices_in (cell_at place fields) =
    let sum = sum_by-append (λ (f : Fields). vertices_in (cell_at place f)) records (fields ∷ []) in
    omega arith in
    let values : values_in_all place (records ++ fields ∷ [])
    ≡ values_in_all place records + length (others place fields) =
    let sum = sum_by-append (λ (f : Fields). length (others place f)) records (fields ∷ []) in omega arith in
    λ i. record {
      features = features i;
      notes = notes i;
      counts = record { vertices = vertices i; values = values i };
    }

-- ---- ids rise, so that no two are alike

apart_from : (place n m : ℕ) (records : List Fields) → n < m
    → AllByRecursion (λ y. nat_eq n y ≡ false) (ids_of (features_from place m records))
apart_from place n m [] low = tt
apart_from place n m (first ∷ records) low =
    (grind (arith, nat_tests), apart_from place n (m + 1) records (omega arith))

distinct_from : (place n : ℕ) (records : List Fields)
    → IsDistinct nat_eq (ids_of (features_from place n records))
unfolding IsDistinct
distinct_from place n [] = tt
distinct_from place n (first ∷ records) =
    (apart_from place n (n + 1) records (omega arith), distinct_from place (n + 1) records)

-- ---- each feature has a value for each column

all_more : {X : Type 0} (P : X → Type 0) (x : X) (xs : List X) → P x → All P xs → All P (x ∷ xs)
all_more P x xs p all zero d h = p
all_more P x xs p all (suc k) d h = all k d (omega arith)

whole_from : (place n width : ℕ) (records : List Fields) → place < width
    → All (λ fields. length fields ≡ width) records
    → All (λ (f : Feature). length f.values + 1 ≡ width) (features_from place n records)
whole_from place n width [] within each = λ k d h. absurd (omega arith)
whole_from place n width (first ∷ records) within each =
    let here : length first ≡ width = each zero [] (omega arith) in
    all_more (λ (f : Feature). length f.values + 1 ≡ width) (feature_of place n first)
    (features_from place (n + 1) records)
    (length-remove first place (omega arith) ∙ here)
    (whole_from place (n + 1) width records within (λ k d h. each (suc k) d (omega arith)))

-- the features of records as wide as the header make a table
pub is_table : (place : ℕ) (header : Fields) (records : List Fields) → place < length header
    → All (λ fields. length fields ≡ length header) records
    → IsFeatureTable (table_of place header records)
is_table place header records within each =
    let columns = length-remove header place within in
    record {
      distinct = distinct_from place 1 records;
      whole = λ k d h. let w = whole_from place 1 (length header) records within each k d h in omega arith;
    }
