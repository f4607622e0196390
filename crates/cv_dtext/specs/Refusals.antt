-- Why a delimited text is refused, and what a reader answers: the first record that shows a cause decides.
use Rattle.std.specs.Prelude.{◌≡◌, ◌⊎◌, ℕ, ◌+◌, ◌==◌, nat_lt, Bool, not, ◌||◌, if◌then◌else◌, List, [], ◌∷◌}
use Rattle.std.specs.Prelude.{◌++◌, length, sum_by, Option, Some, None, Result, Ok, Err}
use Rattle.std.specs.Option.{option_or, unwrap_or, is_none}
use Rattle.cv_model.specs.declared.room.Room.{Room}
use Rattle.cv_model.specs.Features.{FeatureTable}
use Rattle.cv_dtext.specs.declared.options.TextOptions.{TextOptions}
use Rattle.cv_dtext.specs.declared.options.TextError.{TextError}
use Rattle.cv_dtext.specs.declared.options.TextError.TheVariants.{NoHeader, NoGeometryColumn, Uneven, NotUtf8}
use Rattle.cv_dtext.specs.declared.options.TextError.TheVariants.{TooMany}
use Rattle.cv_dtext.specs.Records.{Fields, are_texts, records_of}
use Rattle.cv_dtext.specs.Cell.{vertices_in}
use Rattle.cv_dtext.specs.Table.{column_of, cell_at, others, table_of}

-- how many vertices the features of these records have
abbrev pub vertices_in_all : ℕ → List Fields → ℕ
vertices_in_all place records = sum_by (λ fields. vertices_in (cell_at place fields)) records

-- and how many values
abbrev pub values_in_all : ℕ → List Fields → ℕ
values_in_all place records = sum_by (λ fields. length (others place fields)) records

-- so many features, vertices or values are more than there is room for
abbrev pub is_past : Room → ℕ → ℕ → ℕ → Bool
is_past room features vertices values =
    nat_lt room.features features || (nat_lt room.vertices vertices || nat_lt room.values values)

-- these records have more of them than there is room for
abbrev pub pass : Room → ℕ → List Fields → Bool
pass room place records =
    is_past room (length records) (vertices_in_all place records) (values_in_all place records)

-- what a record shows behind others that show nothing: another number of fields than the header's, a field
-- that is no
-- text, or features that pass the room
abbrev pub shown : Room → ℕ → ℕ → List Fields → Fields → Option TextError
shown room place width before fields =
    let n = length before + 1 in
    if not (length fields == width) then Some (Uneven n)
    else if not (are_texts fields) then Some (NotUtf8 n)
    else if pass room place (before ++ fields ∷ []) then Some TooMany
    else None

-- the first cause that the records behind others show
abbrev pub first_shown : Room → ℕ → ℕ → List Fields → List Fields → Option TextError
first_shown room place width before [] = None
first_shown room place width before (fields ∷ records) =
    option_or (shown room place width before fields)
    (first_shown room place width (before ++ fields ∷ []) records)

-- a table, but where a cause is shown
abbrev pub unless : Option TextError → FeatureTable → Result FeatureTable TextError
unless (Some e) table = Err e
unless None table = Ok table

-- the answer to the records behind a header, some of which come before the others
abbrev pub answer_behind : Room → ℕ → Fields → List Fields → List Fields → Result FeatureTable TextError
answer_behind room place header before records =
    unless (first_shown room place (length header) before records) (table_of place header (before ++ records))

-- the answer to a header with its geometry's column, and to the records behind it
abbrev pub answer_in : Room → Option ℕ → Fields → List Fields → Result FeatureTable TextError
answer_in room None header records = Err NoGeometryColumn
answer_in room (Some place) header records = answer_behind room place header [] records

-- the answer to records, the first of which is the header
abbrev pub answer : TextOptions → List Fields → Result FeatureTable TextError
answer options [] = Err NoHeader
answer options (header ∷ records) =
    if are_texts header then answer_in options.room (column_of options.geometry header) header records
    else Err (NotUtf8 0)

-- the features of a delimited text, or why it is refused
unfoldable pub features_of : TextOptions → List ℕ → Result FeatureTable TextError
features_of options bytes = answer options (records_of options.delimiter bytes)

-- ---- the same, said of one record: it shows a cause, and none before it does

-- what the header shows: a field that is no text, or no field that is the name of the geometry's column
abbrev pub shown_in_header : TextOptions → Fields → Option TextError
shown_in_header options header =
    if not (are_texts header) then Some (NotUtf8 0)
    else if is_none (column_of options.geometry header) then Some NoGeometryColumn
    else None

-- what a record shows behind those before it, the first of which is the header
abbrev pub shown_behind : TextOptions → List Fields → Fields → Option TextError
shown_behind options [] header = shown_in_header options header
shown_behind options (header ∷ before) fields =
    shown options.room (unwrap_or (column_of options.geometry header) 0) (length header) before fields

-- each record shows nothing behind those before it
abbrev pub NoneShown : TextOptions → List Fields → Type 0
NoneShown options records =
    (before rest : List Fields) (fields : Fields) → records ≡ before ++ fields ∷ rest
    → shown_behind options before fields ≡ None

-- a record shows the cause, and no record before it shows any
pub record IsFirstShown (options : TextOptions) (records : List Fields) (e : TextError) : Type 0 where
  pub before : List Fields
  pub fields : Fields
  pub rest : List Fields
  pub split : records ≡ before ++ fields ∷ rest
  pub calm : NoneShown options before
  pub shows : shown_behind options before fields ≡ Some e

-- why a text is refused: it has no record, or its first record that shows a cause shows this one
abbrev pub IsRefused : TextOptions → List ℕ → TextError → Type 0
IsRefused options bytes e =
    ((records_of options.delimiter bytes ≡ []) × (e ≡ NoHeader)) ⊎ IsFirstShown options
    (records_of options.delimiter bytes) e

-- what a text is read as: it has a header with the geometry's column, and no record shows a cause
pub record IsRead (options : TextOptions) (bytes : List ℕ) (table : FeatureTable) : Type 0 where
  pub header : Fields
  pub records : List Fields
  pub place : ℕ
  pub all : records_of options.delimiter bytes ≡ header ∷ records
  pub column : column_of options.geometry header ≡ Some place
  pub calm : NoneShown options (header ∷ records)
  pub made : table ≡ table_of place header records
