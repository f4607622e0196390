-- A reader at the front of a text, and the answer to its header.
use Rattle.std.proofs.Common.{◌≡◌, ◌≢◌, ◌∙◌, ap, ap₂, sym, refl, subst, ℕ, ◌≤◌, Bool, true, false}
use Rattle.std.proofs.Common.{if◌then◌else◌, List, [], ◌∷◌, length, Option, Some, None, Err}
use Rattle.std.proofs.Common.{arith}
use Rattle.std.specs.Option.{unwrap_or}
use Rattle.csv.specs.Reading.{source_of, is_bom, strip_bom}
use Rattle.csv.specs.declared.parser.State.TheVariants as st
use Rattle.csv.specs.declared.reader.Reader.{Reader}
use Rattle.cv_model.specs.declared.delimiter.Delimiter.{Delimiter}
use Rattle.cv_dtext.specs.declared.options.TextOptions.{TextOptions}
use Rattle.cv_dtext.specs.declared.options.TextError.{TextError}
use Rattle.cv_dtext.specs.declared.options.TextError.TheVariants.{NoHeader, NoGeometryColumn, Uneven, NotUtf8}
use Rattle.cv_dtext.specs.declared.options.TextError.TheVariants.{TooMany, NoMemory}
use Rattle.cv_dtext.specs.Records.{Fields, records_of}
use Rattle.cv_dtext.specs.Table.{column_of}
use Rattle.cv_dtext.specs.Refusals.{answer, answer_in, features_of}
use Rattle.cv_dtext.specs.Records.{are_texts}
use Rattle.cv_dtext.specs.Records.{IsNextTexts, Gave, records_behind, bytes_left, records_left}

-- the front of a text has all its records
pub all_left : {R : Type 0} (rem : R → Option (List ℕ)) (d : Delimiter) (reader : Reader R) (bytes : List ℕ)
    → reader.state ≡ st.StartRecord → source_of rem reader ≡ Some (strip_bom bytes)
    → records_left rem d reader ≡ records_of d bytes
unfolding records_behind records_of
all_left rem d reader bytes state source =
    ap₂ (records_behind d) state (ap (λ (o : Option (List ℕ)). unwrap_or o []) source)

shorter_if : (b : Bool) (x y : ℕ) (rest : List ℕ) (whole : List ℕ) → length rest ≤ length whole
    → length (if b then rest else whole) ≤ length whole
shorter_if true x y rest whole h = h
shorter_if false x y rest whole h = omega arith

-- a text without a byte order mark is no longer than with it
pub strip_shorter : (bytes : List ℕ) → length (strip_bom bytes) ≤ length bytes
unfolding strip_bom
strip_shorter [] = omega arith
strip_shorter (a ∷ []) = omega arith
strip_shorter (a ∷ b ∷ []) = omega arith
strip_shorter (a ∷ b ∷ c ∷ rest) = shorter_if (is_bom a b c) 0 0 rest (a ∷ b ∷ c ∷ rest) (omega arith)

-- no more bytes are left than the text has
pub short_left : {R : Type 0} (rem : R → Option (List ℕ)) (reader : Reader R) (bytes : List ℕ)
    → source_of rem reader ≡ Some (strip_bom bytes) → length (bytes_left rem reader) ≤ length bytes
short_left rem reader bytes source =
    subst (λ (left : List ℕ). length left ≤ length bytes)
    (sym (ap (λ (o : Option (List ℕ)). unwrap_or o []) source)) (strip_shorter bytes)

-- ---- the answer to a header

no_fields : {R : Type 0} (reader : Reader R) (n : ℕ) → reader.expected ≡ None → reader.expected ≡ Some n → ⊥
no_fields reader n e h = let both : None ≡ Some n = sym e ∙ h in absurd cc

-- a header that a read refuses is the answer
pub header_refused : {R : Type 0} (rem : R → Option (List ℕ)) (options : TextOptions) (bytes : List ℕ)
    (old new : Reader R) (e : TextError)
    → records_left rem options.delimiter old ≡ records_of options.delimiter bytes → old.expected ≡ None
    → IsNextTexts rem options.delimiter 0 old new (Err e) → e ≢ NoMemory → features_of options bytes ≡ Err e
unfolding features_of
header_refused rem options bytes old new (Uneven number) all first h more =
    absurd (no_fields old h.1.expected first h.1.expects)
header_refused rem options bytes old new (NotUtf8 number) all first h more =
    let t = h.1 in
    ap (answer options) (sym all ∙ t.first)
    ∙ ap (λ (b : Bool). if b then answer_in options.room (column_of options.geometry t.fields) t.fields t.rest
    else Err (NotUtf8 0)) t.no_text
    ∙ ap (λ (k : ℕ). Err (NotUtf8 k)) (sym h.0)
header_refused rem options bytes old new NoMemory all first h more = absurd (more refl)
header_refused rem options bytes old new NoHeader all first h more = absurd h
header_refused rem options bytes old new NoGeometryColumn all first h more = absurd h
header_refused rem options bytes old new TooMany all first h more = absurd h

-- without a record there is no header
pub no_header : (options : TextOptions) (bytes : List ℕ) → records_of options.delimiter bytes ≡ []
    → features_of options bytes ≡ Err NoHeader
unfolding features_of
no_header options bytes e = ap (answer options) e

-- a header of texts is answered by the place of its geometry's column, and by the records behind it
pub header_given : {R : Type 0} (rem : R → Option (List ℕ)) (options : TextOptions) (bytes : List ℕ)
    (old new : Reader R) (header : Fields) (o : Option ℕ)
    → records_left rem options.delimiter old ≡ records_of options.delimiter bytes
    → Gave rem options.delimiter old new header → are_texts header ≡ true
    → column_of options.geometry header ≡ o
    → features_of options bytes ≡ answer_in options.room o header (records_left rem options.delimiter new)
unfolding features_of
header_given rem options bytes old new header o all gave texts place =
    let records = records_left rem options.delimiter new in
    ap (answer options) (sym all ∙ gave.first)
    ∙ ap (λ (b : Bool). if b then answer_in options.room (column_of options.geometry header) header records
    else Err (NotUtf8 0)) texts
    ∙ ap (λ (p : Option ℕ). answer_in options.room p header records) place
