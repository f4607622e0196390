-- The records of a delimited text, and a reader between two of them.
--
-- Source: RFC 4180 as the crate `csv` reads it, with the double quote, which a quote within a field doubles.
use Rattle.std.specs.Prelude.{◌≡◌, ◌≢◌, ℕ, ◌+◌, Bool, true, false, List, [], ◌∷◌, length, ◌<◌, Option, Some}
use Rattle.std.specs.Prelude.{None}
use Rattle.std.specs.Prelude.{IfSome, Result, Ok, Err}
use Rattle.std.specs.Borrow.{Bor}
use Rattle.std.specs.List.{list_all}
use Rattle.std.specs.Option.{unwrap_or}
use Rattle.std.specs.Str.{is_utf8}
use Rattle.csv.specs.Machine.{Read, ends_at_end, next_record}
use Rattle.csv.specs.Reading.{default_config, strip_bom, records, Ready, source_of, records_from}
use Rattle.csv.specs.Records.{Row, fields_of}
use Rattle.csv.specs.declared.parser.Config.{Config}
use Rattle.csv.specs.declared.parser.State.{State}
use Rattle.csv.specs.declared.reader.Reader.{Reader}
use Rattle.csv.specs.declared.reader.Trim.TheVariants as trim
use Rattle.cv_model.specs.declared.delimiter.Delimiter.{Delimiter}
use Rattle.cv_model.specs.declared.delimiter.Delimiter.TheVariants.{Comma, Semicolon, Tab}
use Rattle.cv_dtext.specs.declared.options.TextError.{TextError}
use Rattle.cv_dtext.specs.declared.options.TextError.TheVariants.{NoHeader, NoGeometryColumn, Uneven, NotUtf8}
use Rattle.cv_dtext.specs.declared.options.TextError.TheVariants.{TooMany, NoMemory}

-- a record: the bytes of its fields
abbrev pub Fields : Type 0
Fields = List (List ℕ)

-- the byte between two fields
abbrev pub delimiter_byte : Delimiter → ℕ
delimiter_byte Comma = 44
delimiter_byte Semicolon = 59
delimiter_byte Tab = 9

-- how the crate `csv` is to read: with that byte, and else as it does by default
abbrev pub config_of : Delimiter → Config
config_of d = record default_config { delimiter = delimiter_byte d }

-- the records of the bytes behind a byte order mark; a line without a byte is none
unfoldable pub records_of : Delimiter → List ℕ → List Fields
records_of d bytes = records (config_of d) (strip_bom bytes)

-- each field is UTF-8
abbrev pub are_texts : Fields → Bool
are_texts fields = list_all is_utf8 fields

-- ---- a reader between two records: what the clauses of private functions cite

-- what is left of a slice of bytes that is read
abbrev pub slice_left : Bor (List ℕ) → Option (List ℕ)
slice_left bytes = Some bytes.now

-- a reader that stands behind some records: the state of its machine, the bytes that are left, and how many
-- fields the
-- next record must have
pub record Stands {R : Type 0} (rem : R → Option (List ℕ)) (d : Delimiter) (reader : Reader R) (s : State)
    (left : List ℕ) (width : Option ℕ) : Type 0 where
  pub plain : reader.trim ≡ trim.None
  pub ready : Ready reader
  pub config : reader.config ≡ config_of d
  pub strict : reader.flexible ≡ false
  pub state : reader.state ≡ s
  pub expects : reader.expected ≡ width
  pub source : source_of rem reader ≡ Some left

-- a record was read, of as many fields as it must have
pub record Took {R : Type 0} (rem : R → Option (List ℕ)) (d : Delimiter) (s : State) (left : List ℕ)
    (width : Option ℕ) (reader : Reader R) (fields : Fields) : Type 0 where
  pub read : Read
  pub next : next_record (config_of d) s [] [] left ≡ Some read
  pub fields_are : fields ≡ read.0
  pub even : IfSome width (λ n. length read.0 ≡ n)
  pub stands : Stands rem d reader read.1 read.2 (Some (length read.0))

-- the next record has another number of fields than it must have
pub record IsUneven (d : Delimiter) (s : State) (left : List ℕ) (width : Option ℕ) : Type 0 where
  pub read : Read
  pub next : next_record (config_of d) s [] [] left ≡ Some read
  pub expected : ℕ
  pub expects : width ≡ Some expected
  pub other : length read.0 ≢ expected

-- what a read answers before record n
abbrev pub IsNext : {R : Type 0} → (R → Option (List ℕ)) → Delimiter → State → List ℕ → Option ℕ → ℕ
    → Reader R → Result (Option Row) TextError → Type 0
IsNext rem d s left width n reader (Ok None) = next_record (config_of d) s [] [] left ≡ None
IsNext rem d s left width n reader (Ok (Some found)) = Took rem d s left width reader (fields_of found)
IsNext rem d s left width n reader (Err (Uneven number)) = (number ≡ n) × IsUneven d s left width
IsNext rem d s left width n reader (Err NoMemory) = Unit {0}
IsNext rem d s left width n reader (Err NoHeader) = ⊥
IsNext rem d s left width n reader (Err NoGeometryColumn) = ⊥
IsNext rem d s left width n reader (Err (NotUtf8 number)) = ⊥
IsNext rem d s left width n reader (Err TooMany) = ⊥

-- the records that are left of a text
unfoldable pub records_behind : Delimiter → State → List ℕ → List Fields
records_behind d s left = records_from (config_of d) (length left + 1) s left

-- the bytes that a reader has left
abbrev pub bytes_left : {R : Type 0} → (R → Option (List ℕ)) → Reader R → List ℕ
bytes_left rem reader = unwrap_or (source_of rem reader) []

-- and the records
abbrev pub records_left : {R : Type 0} → (R → Option (List ℕ)) → Delimiter → Reader R → List Fields
records_left rem d reader = records_behind d reader.state (bytes_left rem reader)

-- a reader between two records
pub record IsBetween {R : Type 0} (rem : R → Option (List ℕ)) (d : Delimiter)
    (reader : Reader R) : Type 0 where
  pub stands : Stands rem d reader reader.state (bytes_left rem reader) reader.expected
  pub between : ends_at_end reader.state ≡ false

-- a record of texts was read, of as many fields as it must have
pub record Gave {R : Type 0} (rem : R → Option (List ℕ)) (d : Delimiter) (old new : Reader R)
    (fields : Fields) : Type 0 where
  pub first : records_left rem d old ≡ fields ∷ records_left rem d new
  pub even : IfSome old.expected (λ n. length fields ≡ n)
  pub expects : new.expected ≡ Some (length fields)
  pub fewer : length (bytes_left rem new) < length (bytes_left rem old)
  pub behind : IsBetween rem d new

-- the next record has another number of fields than it must have
pub record FirstIsUneven {R : Type 0} (rem : R → Option (List ℕ)) (d : Delimiter)
    (old : Reader R) : Type 0 where
  pub fields : Fields
  pub rest : List Fields
  pub first : records_left rem d old ≡ fields ∷ rest
  pub expected : ℕ
  pub expects : old.expected ≡ Some expected
  pub other : length fields ≢ expected

-- it has as many, but one is no text
pub record FirstIsNoText {R : Type 0} (rem : R → Option (List ℕ)) (d : Delimiter)
    (old : Reader R) : Type 0 where
  pub fields : Fields
  pub rest : List Fields
  pub first : records_left rem d old ≡ fields ∷ rest
  pub even : IfSome old.expected (λ n. length fields ≡ n)
  pub no_text : are_texts fields ≡ false

-- what a read of texts answers before record n
abbrev pub IsNextTexts : {R : Type 0} → (R → Option (List ℕ)) → Delimiter → ℕ → Reader R → Reader R
    → Result (Option Row) TextError → Type 0
IsNextTexts rem d n old new (Ok None) = records_left rem d old ≡ []
IsNextTexts rem d n old new (Ok (Some found)) =
    Gave rem d old new (fields_of found) × (are_texts (fields_of found) ≡ true)
IsNextTexts rem d n old new (Err (Uneven number)) = (number ≡ n) × FirstIsUneven rem d old
IsNextTexts rem d n old new (Err (NotUtf8 number)) = (number ≡ n) × FirstIsNoText rem d old
IsNextTexts rem d n old new (Err NoMemory) = Unit {0}
IsNextTexts rem d n old new (Err NoHeader) = ⊥
IsNextTexts rem d n old new (Err NoGeometryColumn) = ⊥
IsNextTexts rem d n old new (Err TooMany) = ⊥
