-- The function's first refusal is the first record that shows a cause.
use Rattle.std.proofs.Common.{◌≡◌, ◌∙◌, ap, ap₂, sym, refl, ℕ, ◌⊎◌, inl, inr, Bool, true, false, not}
use Rattle.std.proofs.Common.{if◌then◌else◌, List, [], ◌∷◌, ◌++◌, length, append_assoc, Option, Some, None}
use Rattle.std.proofs.Common.{Result, Ok, Err, IfOk, ◌↔◌}
use Rattle.std.proofs.lemmas.List.{append-nil}
use Rattle.std.specs.Option.{option_or, unwrap_or, is_none}
use Rattle.cv_model.specs.Features.{FeatureTable}
use Rattle.cv_dtext.specs.declared.options.TextOptions.{TextOptions}
use Rattle.cv_dtext.specs.declared.options.TextError.{TextError}
use Rattle.cv_dtext.specs.declared.options.TextError.TheVariants.{NoHeader, NoGeometryColumn, NotUtf8}
use Rattle.cv_dtext.specs.Records.{Fields, records_of}
use Rattle.cv_dtext.specs.Table.{column_of, table_of}
use Rattle.cv_dtext.specs.Refusals.{shown, first_shown, unless, answer, answer_in, features_of, shown_behind}
use Rattle.cv_dtext.specs.Refusals.{IsFirstShown, IsRefused, IsRead}
use Rattle.cv_dtext.specs.Records.{are_texts}

-- ---- the records behind the header, by what each shows behind those before it

abbrev Shows : Type 0
Shows = List Fields → Fields → Option TextError

-- the first cause of these records behind others, for any test of a record
abbrev first_by : Shows → List Fields → List Fields → Option TextError
first_by f before [] = None
first_by f before (fields ∷ records) =
    option_or (f before fields) (first_by f (before ++ fields ∷ []) records)

-- each of these records shows nothing behind others and those before it
abbrev Calm : Shows → List Fields → List Fields → Type 0
Calm f front records = (before rest : List Fields) (fields : Fields) → records ≡ before ++ fields ∷ rest
    → f (front ++ before) fields ≡ None

record FirstBy (f : Shows) (front records : List Fields) (e : TextError) : Type 0 where
  before : List Fields
  fields : Fields
  rest : List Fields
  split : records ≡ before ++ fields ∷ rest
  calm : Calm f front before
  shows : f (front ++ before) fields ≡ Some e

calm_nil : (f : Shows) (front : List Fields) → Calm f front []
calm_nil f front [] rest fields e = absurd cc
calm_nil f front (x ∷ before) rest fields e = absurd cc

calm_more : (f : Shows) (front records : List Fields) (fields : Fields) → f front fields ≡ None
    → Calm f (front ++ fields ∷ []) records → Calm f front (fields ∷ records)
calm_more f front records fields none calm [] rest found e =
    let same : fields ≡ found = cc in
    rw (← same) (ap (λ (b : List Fields). f b fields) (append-nil front) ∙ none)
calm_more f front records fields none calm (x ∷ before) rest found e =
    let same : fields ≡ x = cc in let more : records ≡ before ++ found ∷ rest = cc in
    ap (λ (b : List Fields). f b found)
    (ap (λ (y : Fields). front ++ y ∷ before) (sym same) ∙ sym (append_assoc front (fields ∷ []) before))
    ∙ calm before rest found more

calm_head : (f : Shows) (front records : List Fields) (fields : Fields) → Calm f front (fields ∷ records)
    → f front fields ≡ None
calm_head f front records fields calm =
    ap (λ (b : List Fields). f b fields) (sym (append-nil front)) ∙ calm [] records fields refl

calm_tail : (f : Shows) (front records : List Fields) (fields : Fields) → Calm f front (fields ∷ records)
    → Calm f (front ++ fields ∷ []) records
calm_tail f front records fields calm before rest found e =
    ap (λ (b : List Fields). f b found) (append_assoc front (fields ∷ []) before)
    ∙ calm (fields ∷ before) rest found (ap (λ (r : List Fields). fields ∷ r) e)

-- no cause was found: none is shown
calm_step : (f : Shows) (front records : List Fields) (fields : Fields) (o : Option TextError)
    → f front fields ≡ o
    → option_or o (first_by f (front ++ fields ∷ []) records) ≡ None
    → (first_by f (front ++ fields ∷ []) records ≡ None → Calm f (front ++ fields ∷ []) records)
    → Calm f front (fields ∷ records)
calm_step f front records fields (Some x) h e more = absurd cc
calm_step f front records fields None h e more = calm_more f front records fields h (more e)

calm_from : (f : Shows) (front records : List Fields) → first_by f front records ≡ None → Calm f front records
calm_from f front [] e = calm_nil f front
calm_from f front (fields ∷ records) e =
    calm_step f front records fields (f front fields) refl e (calm_from f (front ++ fields ∷ []) records)

-- none is shown: no cause is found
from_calm : (f : Shows) (front records : List Fields) → Calm f front records → first_by f front records ≡ None
from_calm f front [] calm = refl
from_calm f front (fields ∷ records) calm =
    ap₂ (λ (a b : Option TextError). option_or a b) (calm_head f front records fields calm)
    (from_calm f (front ++ fields ∷ []) records (calm_tail f front records fields calm))

-- a cause was found: it is the first shown
first_step : (f : Shows) (front records : List Fields) (fields : Fields) (o : Option TextError)
    (e : TextError) → f front fields ≡ o
    → option_or o (first_by f (front ++ fields ∷ []) records) ≡ Some e
    → (first_by f (front ++ fields ∷ []) records ≡ Some e → FirstBy f (front ++ fields ∷ []) records e)
    → FirstBy f front (fields ∷ records) e
first_step f front records fields (Some x) e h found more = record {
  before = [];
  fields = fields;
  rest = records;
  split = refl;
  calm = calm_nil f front;
  shows = ap (λ (b : List Fields). f b fields) (append-nil front) ∙ h ∙ found;
}
first_step f front records fields None e h found more =
    let m = more found in record {
      before = fields ∷ m.before;
      fields = m.fields;
      rest = m.rest;
      split = ap (λ (r : List Fields). fields ∷ r) m.split;
      calm = calm_more f front m.before fields h m.calm;
      shows = ap (λ (b : List Fields). f b m.fields) (sym (append_assoc front (fields ∷ []) m.before))
          ∙ m.shows;
    }

first_from : (f : Shows) (front records : List Fields) (e : TextError) → first_by f front records ≡ Some e
    → FirstBy f front records e
first_from f front [] e found = absurd cc
first_from f front (fields ∷ records) e found =
    first_step f front records fields (f front fields) e refl found
    (first_from f (front ++ fields ∷ []) records e)

-- the first shown is found
from_split : (f : Shows) (front before rest : List Fields) (fields : Fields) (e : TextError)
    → Calm f front before
    → f (front ++ before) fields ≡ Some e → first_by f front (before ++ fields ∷ rest) ≡ Some e
from_split f front [] rest fields e calm shows =
    ap (λ (o : Option TextError). option_or o (first_by f (front ++ fields ∷ []) rest))
    (ap (λ (b : List Fields). f b fields) (sym (append-nil front)) ∙ shows)
from_split f front (x ∷ before) rest fields e calm shows =
    ap₂ (λ (a b : Option TextError). option_or a b) (calm_head f front before x calm)
    (from_split f (front ++ x ∷ []) before rest fields e (calm_tail f front before x calm)
    (ap (λ (b : List Fields). f b fields) (append_assoc front (x ∷ []) before) ∙ shows))

-- ---- the answer to all records

-- behind a header with its column, the records show what the function finds
behind_alike : (options : TextOptions) (header : Fields) (place : ℕ) (before records : List Fields)
    → column_of options.geometry header ≡ Some place
    → first_by (shown_behind options) (header ∷ before) records
    ≡ first_shown options.room place (length header) before records
behind_alike options header place before [] at = refl
behind_alike options header place before (fields ∷ records) at =
    ap₂ (λ (a b : Option TextError). option_or a b)
    (ap (λ (o : Option ℕ). shown options.room (unwrap_or o 0) (length header) before fields) at)
    (behind_alike options header place (before ++ fields ∷ []) records at)

abbrev header_by : (texts : Bool) (o : Option ℕ) → Option TextError
header_by texts o = if not texts then Some (NotUtf8 0) else if is_none o then Some NoGeometryColumn else None

answer_by : (options : TextOptions) (header : Fields) (records : List Fields) (texts : Bool) (o : Option ℕ)
    → column_of options.geometry header ≡ o
    → (if texts then answer_in options.room o header records else Err (NotUtf8 0))
    ≡ unless (option_or (header_by texts o) (first_by (shown_behind options) (header ∷ []) records))
    (table_of (unwrap_or o 0) header records)
answer_by options header records false o at = refl
answer_by options header records true None at = refl
answer_by options header records true (Some place) at =
    ap (λ (e : Option TextError). unless e (table_of place header records))
    (sym (behind_alike options header place [] records at))

answer_is : (options : TextOptions) (header : Fields) (records : List Fields)
    → answer options (header ∷ records)
    ≡ unless (first_by (shown_behind options) [] (header ∷ records))
    (table_of (unwrap_or (column_of options.geometry header) 0) header records)
answer_is options header records =
    answer_by options header records (are_texts header) (column_of options.geometry header) refl

unless_err : (o : Option TextError) (table : FeatureTable) (e : TextError) → unless o table ≡ Err e
    → o ≡ Some e
unless_err None table e h = absurd cc
unless_err (Some x) table e h = cc

unless_ok : (o : Option TextError) (table t : FeatureTable) → unless o table ≡ Ok t → (o ≡ None) × (t ≡ table)
unless_ok None table t h = (refl, cc)
unless_ok (Some x) table t h = absurd cc

no_split : (before rest : List Fields) (fields : Fields) → [] ≡ before ++ fields ∷ rest → ⊥
no_split [] rest fields e = cc
no_split (x ∷ before) rest fields e = cc

-- a refusal of the function is of a text without a record, or the first that is shown
refusal_of : (options : TextOptions) (records : List Fields) (e : TextError) → answer options records ≡ Err e
    → ((records ≡ []) × (e ≡ NoHeader)) ⊎ IsFirstShown options records e
refusal_of options [] e h = inl (refl, cc)
refusal_of options (header ∷ records) e h =
    let found = first_from (shown_behind options) [] (header ∷ records) e
    (unless_err _ _ e (sym (answer_is options header records) ∙ h)) in
    inr (record {
      before = found.before;
      fields = found.fields;
      rest = found.rest;
      split = found.split;
      calm = found.calm;
      shows = found.shows;
    })

-- and such a text is refused so
of_refusal : (options : TextOptions) (records : List Fields) (e : TextError)
    → ((records ≡ []) × (e ≡ NoHeader)) ⊎ IsFirstShown options records e → answer options records ≡ Err e
of_refusal options [] e (inl h) = ap Err (sym h.1)
of_refusal options [] e (inr first) = absurd (no_split first.before first.rest first.fields first.split)
of_refusal options (header ∷ records) e (inl h) = let no : header ∷ records ≡ [] = h.0 in absurd cc
of_refusal options (header ∷ records) e (inr first) =
    let table = table_of (unwrap_or (column_of options.geometry header) 0) header records in
    answer_is options header records
    ∙ ap (λ (o : Option TextError). unless o table)
    (ap (first_by (shown_behind options) []) first.split
    ∙ from_split (shown_behind options) [] first.before first.rest first.fields e first.calm first.shows)

-- a header that shows nothing has the geometry's column
column_there : (texts : Bool) (o : Option ℕ) → header_by texts o ≡ None → o ≡ Some (unwrap_or o 0)
column_there false o h = absurd cc
column_there true None h = absurd cc
column_there true (Some place) h = refl

-- a table of the function is what the text is read as
read_of : (options : TextOptions) (bytes : List ℕ) (records : List Fields) (table : FeatureTable)
    → records_of options.delimiter bytes ≡ records
    → answer options records ≡ Ok table → IsRead options bytes table
read_of options bytes [] table all h = absurd cc
read_of options bytes (header ∷ records) table all h =
    let made = unless_ok _ _ table (sym (answer_is options header records) ∙ h) in
    let calm = calm_from (shown_behind options) [] (header ∷ records) made.0 in
    record {
      header = header;
      records = records;
      place = unwrap_or (column_of options.geometry header) 0;
      all = all;
      column = column_there (are_texts header) (column_of options.geometry header)
          (calm [] records header refl);
      calm = calm;
      made = made.1;
    }

-- and what a text is read as is the function's table
pub of_read : (options : TextOptions) (bytes : List ℕ) (table : FeatureTable) → IsRead options bytes table
    → features_of options bytes ≡ Ok table
unfolding features_of
of_read options bytes table r =
    let first = from_calm (shown_behind options) [] (r.header ∷ r.records) r.calm in
    ap (answer options) r.all ∙ answer_is options r.header r.records
    ∙ ap₂ (λ (e : Option TextError) (o : Option ℕ). unless e (table_of (unwrap_or o 0) r.header r.records))
    first r.column
    ∙ ap Ok (sym r.made)

found_step : (options : TextOptions) (bytes : List ℕ) (table : FeatureTable)
    → features_of options bytes ≡ Ok table → IsRead options bytes table
unfolding features_of
found_step options bytes table h = read_of options bytes (records_of options.delimiter bytes) table refl h

-- the function's table is what the text is read as, and no other
pub found_exactly : (options : TextOptions) (bytes : List ℕ) (table : FeatureTable)
    → (features_of options bytes ≡ Ok table) ↔ IsRead options bytes table
found_exactly options bytes table = (found_step options bytes table, of_read options bytes table)

-- its refusal is that of the first record that shows a cause, and no other
pub fault_exactly : (options : TextOptions) (bytes : List ℕ) (e : TextError)
    → (features_of options bytes ≡ Err e) ↔ IsRefused options bytes e
unfolding features_of
fault_exactly options bytes e = (
  refusal_of options (records_of options.delimiter bytes) e,
  of_refusal options (records_of options.delimiter bytes) e,
)

-- ---- what the reader answers

-- a table of the reader is what the text is read as
pub found_of : (options : TextOptions) (bytes : List ℕ) (r : Result FeatureTable TextError)
    → IfOk r (λ table. features_of options bytes ≡ Ok table)
    → IfOk r (IsRead options bytes)
found_of options bytes (Ok table) h = found_step options bytes table h
found_of options bytes (Err e) h = tt

-- a refusal of the reader is that of the text
pub fault_in : (options : TextOptions) (bytes : List ℕ) (r : Result FeatureTable TextError) (e : TextError)
    → r ≡ features_of options bytes
    → (r ≡ Err e) ↔ IsRefused options bytes e
fault_in options bytes r e same =
    let both = fault_exactly options bytes e in (λ h. both.0 (sym same ∙ h), λ h. same ∙ both.1 h)
