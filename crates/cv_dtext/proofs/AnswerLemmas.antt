-- The answer to the records that are left, at each turn of the loop over them.
use Rattle.std.proofs.Common.{◌≡◌, ◌≢◌, ◌∙◌, ap, ap₂, sym, refl, subst, ℕ, zero, suc, ◌+◌, ◌<◌, ◌≤◌, ◌==◌}
use Rattle.std.proofs.Common.{Bool}
use Rattle.std.proofs.Common.{true, false, not, if◌then◌else◌, List, [], ◌∷◌, ◌++◌, length, All, append_assoc}
use Rattle.std.proofs.Common.{Option, Some, None, IfSome, Ok, Err, arith}
use Rattle.std.proofs.lemmas.Bool.Decides.{nat_tests}
use Rattle.std.proofs.lemmas.List.{append-nil, length-append}
use Rattle.std.proofs.lemmas.List.Elements.{All-append}
use Rattle.std.specs.Option.{option_or}
use Rattle.csv.specs.Records.{Row, fields_of}
use Rattle.csv.specs.declared.reader.Reader.{Reader}
use Rattle.cv_model.specs.declared.delimiter.Delimiter.{Delimiter}
use Rattle.cv_model.specs.declared.room.Room.{Room}
use Rattle.cv_model.specs.Features.{IsFeatureTable}
use Rattle.cv_dtext.specs.declared.options.TextError.{TextError}
use Rattle.cv_dtext.specs.declared.options.TextError.TheVariants.{NoHeader, NoGeometryColumn, Uneven, NotUtf8}
use Rattle.cv_dtext.specs.declared.options.TextError.TheVariants.{TooMany, NoMemory}
use Rattle.cv_dtext.specs.declared.gathered.Gathered.{Gathered}
use Rattle.cv_dtext.specs.Records.{bytes_left, Fields}
use Rattle.cv_dtext.specs.Table.{table_of}
use Rattle.cv_dtext.specs.Refusals.{pass, shown, first_shown, unless, answer_behind}
use Rattle.cv_dtext.specs.Records.{are_texts}
use Rattle.cv_dtext.specs.Records.{IsBetween, Gave, IsNextTexts, records_left}
use Rattle.cv_dtext.specs.Gathered.{IsAdded, gathered_of, with_record, is_full, tabled}
use Rattle.cv_dtext.proofs.TableLemmas.{gathered_more, is_table}

-- ---- what one record shows

first_branch : {A : Type 0} (b : Bool) (x y : A) → b ≡ false → (if not b then x else y) ≡ x
first_branch true x y e = absurd (grind (arith, nat_tests))
first_branch false x y e = refl

second_branch : {A : Type 0} (b : Bool) (x y : A) → b ≡ true → (if not b then x else y) ≡ y
second_branch true x y e = refl
second_branch false x y e = absurd (grind (arith, nat_tests))

shown_uneven : (room : Room) (place width : ℕ) (before : List Fields) (fields : Fields)
    → length fields ≢ width
    → shown room place width before fields ≡ Some (Uneven (length before + 1))
shown_uneven room place width before fields other =
    let apart : (length fields == width) ≡ false = grind (arith, nat_tests) in
    first_branch (length fields == width) _ _ apart

shown_no_text : (room : Room) (place width : ℕ) (before : List Fields) (fields : Fields)
    → length fields ≡ width → are_texts fields ≡ false
    → shown room place width before fields ≡ Some (NotUtf8 (length before + 1))
shown_no_text room place width before fields even none =
    let same : (length fields == width) ≡ true = grind (arith, nat_tests) in
    second_branch (length fields == width) _ _ same ∙ first_branch (are_texts fields) _ _ none

shown_by_room : (room : Room) (place width : ℕ) (before : List Fields) (fields : Fields) (b : Bool)
    → length fields ≡ width → are_texts fields ≡ true
    → pass room place (before ++ fields ∷ []) ≡ b
    → shown room place width before fields ≡ (if b then Some TooMany else None)
shown_by_room room place width before fields b even texts past =
    let same : (length fields == width) ≡ true = grind (arith, nat_tests) in
    second_branch (length fields == width) _ _ same ∙ second_branch (are_texts fields) _ _ texts
    ∙ ap (λ (p : Bool). if p then Some TooMany else None) past

-- ---- the answer to the records that are left

answer_end : (room : Room) (place : ℕ) (header : Fields) (before : List Fields)
    → answer_behind room place header before [] ≡ Ok (table_of place header before)
answer_end room place header before =
    ap (λ (records : List Fields). Ok (table_of place header records)) (append-nil before)

answer_stops : (room : Room) (place : ℕ) (header : Fields) (before : List Fields) (fields : Fields)
    (records : List Fields) (e : TextError)
    → shown room place (length header) before fields ≡ Some e
    → answer_behind room place header before (fields ∷ records) ≡ Err e
answer_stops room place header before fields records e h =
    ap (λ (o : Option TextError).
    unless (option_or o (first_shown room place (length header) (before ++ fields ∷ []) records))
    (table_of place header (before ++ fields ∷ records))) h

answer_goes : (room : Room) (place : ℕ) (header : Fields) (before : List Fields) (fields : Fields)
    (records : List Fields)
    → shown room place (length header) before fields ≡ None
    → answer_behind room place header before (fields ∷ records)
    ≡ answer_behind room place header (before ++ fields ∷ []) records
answer_goes room place header before fields records h =
    let rest = first_shown room place (length header) (before ++ fields ∷ []) records in
    ap (λ (o : Option TextError).
    unless (option_or o rest) (table_of place header (before ++ fields ∷ records))) h
    ∙ ap (λ (all : List Fields). unless rest (table_of place header all))
    (sym (append_assoc before (fields ∷ []) records))

-- ---- the loop

-- the loop over the records, before record n: what was gathered is that of the records before it, and the
-- records that
-- are left decide what is answered
pub record Along {R : Type 0} (rem : R → Option (List ℕ)) (d : Delimiter) (room : Room) (place : ℕ)
    (header : Fields) (start now : Reader R) (g : Gathered) (n : ℕ) : Type 0 where
  pub before : List Fields
  pub gathered : g ≡ gathered_of place before
  pub number : n ≡ length before + 1
  pub each : All (λ fields. length fields ≡ length header) before
  pub expects : now.expected ≡ Some (length header)
  pub behind : IsBetween rem d now
  pub short : length (bytes_left rem now) + n ≤ length (bytes_left rem start) + 1
  pub same : answer_behind room place header [] (records_left rem d start)
      ≡ answer_behind room place header before (records_left rem d now)

-- as many fields as the reader expects are as many as the header has
even_with : (o : Option ℕ) (n width : ℕ) → o ≡ Some width → IfSome o (λ m. n ≡ m) → n ≡ width
even_with None n width e h = absurd cc
even_with (Some m) n width e h = let same : m ≡ width = cc in h ∙ same

-- a read that refuses is the answer
pub stopped : {R : Type 0} (rem : R → Option (List ℕ)) (d : Delimiter) (room : Room) (place : ℕ)
    (header : Fields) (start now new : Reader R) (g : Gathered) (n : ℕ) (e : TextError)
    → Along rem d room place header start now g n → IsNextTexts rem d n now new (Err e) → e ≢ NoMemory
    → answer_behind room place header [] (records_left rem d start) ≡ Err e
stopped rem d room place header start now new g n (Uneven number) a h more =
    let u = h.1 in
    let same : u.expected ≡ length header = let e : Some u.expected ≡ Some (length header) =
    sym u.expects ∙ a.expects in cc in
    let other : length u.fields ≢ length header = λ e. u.other (e ∙ sym same) in
    a.same ∙ ap (answer_behind room place header a.before) u.first
    ∙ answer_stops room place header a.before u.fields u.rest _
    (shown_uneven room place (length header) a.before u.fields other)
    ∙ ap (λ (k : ℕ). Err (Uneven k)) (sym (h.0 ∙ a.number))
stopped rem d room place header start now new g n (NotUtf8 number) a h more =
    let t = h.1 in
    a.same ∙ ap (answer_behind room place header a.before) t.first
    ∙ answer_stops room place header a.before t.fields t.rest _
    (shown_no_text room place (length header) a.before t.fields
    (even_with now.expected (length t.fields) (length header) a.expects t.even) t.no_text)
    ∙ ap (λ (k : ℕ). Err (NotUtf8 k)) (sym (h.0 ∙ a.number))
stopped rem d room place header start now new g n NoMemory a h more = absurd (more refl)
stopped rem d room place header start now new g n NoHeader a h more = absurd h
stopped rem d room place header start now new g n NoGeometryColumn a h more = absurd h
stopped rem d room place header start now new g n TooMany a h more = absurd h

-- the end of the records is the end of the table
pub ended : {R : Type 0} (rem : R → Option (List ℕ)) (d : Delimiter) (room : Room) (place : ℕ)
    (header : Fields) (start now new : Reader R) (g : Gathered) (n : ℕ)
    → place < length header → Along rem d room place header start now g n
    → IsNextTexts rem d n now new (Ok None)
    → (answer_behind room place header [] (records_left rem d start) ≡ Ok (tabled place header g))
    × IsFeatureTable (tabled place header g)
ended rem d room place header start now new g n within a h =
    let same : table_of place header a.before ≡ tabled place header g =
    ap (tabled place header) (sym a.gathered) in (
      a.same ∙ ap (answer_behind room place header a.before) h ∙ answer_end room place header a.before
          ∙ ap Ok same,
      subst IsFeatureTable same (is_table place header a.before within a.each),
    )

-- what is gathered with one record more
with_more : (place : ℕ) (before : List Fields) (fields : Fields) (g : Gathered) (n : ℕ)
    → g ≡ gathered_of place before → n ≡ length before + 1
    → with_record place n fields g ≡ gathered_of place (before ++ fields ∷ [])
with_more place before fields g n eg en =
    ap₂ (λ (k : ℕ) (h : Gathered). with_record place k fields h) en eg
    ∙ sym (gathered_more place before fields)

-- it is more than there is room for where the records are
full_alike : (room : Room) (place : ℕ) (before : List Fields) (fields : Fields) (g : Gathered) (n : ℕ)
    → g ≡ gathered_of place before → n ≡ length before + 1
    → is_full room n (with_record place n fields g) ≡ pass room place (before ++ fields ∷ [])
full_alike room place before fields g n eg en =
    let many = length-append before (fields ∷ []) in
    let count : n ≡ length (before ++ fields ∷ []) = omega arith in
    ap₂ (λ (k : ℕ) (h : Gathered). is_full room k h) count (with_more place before fields g n eg en)

-- a record for which there is no room is the answer
pub overfull : {R : Type 0} (rem : R → Option (List ℕ)) (d : Delimiter) (room : Room) (place : ℕ)
    (header : Fields) (start now new : Reader R) (g left : Gathered) (n : ℕ) (fields : Fields) (e : TextError)
    → Along rem d room place header start now g n → Gave rem d now new fields → are_texts fields ≡ true
    → IsAdded room n (with_record place n fields g) left (Err e) → e ≢ NoMemory
    → answer_behind room place header [] (records_left rem d start) ≡ Err e
overfull rem d room place header start now new g left n fields TooMany a gave texts h more =
    a.same ∙ ap (answer_behind room place header a.before) gave.first
    ∙ answer_stops room place header a.before fields _ TooMany
    (shown_by_room room place (length header) a.before fields true
    (even_with now.expected (length fields) (length header) a.expects gave.even) texts
    (sym (full_alike room place a.before fields g n a.gathered a.number) ∙ h))
overfull rem d room place header start now new g left n fields NoMemory a gave texts h more =
    absurd (more refl)
overfull rem d room place header start now new g left n fields NoHeader a gave texts h more = absurd h
overfull rem d room place header start now new g left n fields NoGeometryColumn a gave texts h more = absurd h
overfull rem d room place header start now new g left n fields (Uneven number) a gave texts h more = absurd h
overfull rem d room place header start now new g left n fields (NotUtf8 number) a gave texts h more = absurd h

one_is : (fields : Fields) (width : ℕ) → length fields ≡ width
    → All (λ (f : Fields). length f ≡ width) (fields ∷ [])
one_is fields width even zero d h = even
one_is fields width even (suc k) d h = absurd (omega arith)

-- the loop goes on behind a record that was added
pub added : {R : Type 0} (rem : R → Option (List ℕ)) (d : Delimiter) (room : Room) (place : ℕ)
    (header : Fields) (start now new : Reader R) (g more : Gathered) (n : ℕ) (fields : Fields)
    → Along rem d room place header start now g n → Gave rem d now new fields → are_texts fields ≡ true
    → more ≡ with_record place n fields g → is_full room n (with_record place n fields g) ≡ false
    → Along rem d room place header start new more (n + 1)
added rem d room place header start now new g more n fields a gave texts em room_left =
    let even = even_with now.expected (length fields) (length header) a.expects gave.even in
    let many = length-append a.before (fields ∷ []) in
    let number = a.number in let short = a.short in let fewer = gave.fewer in
    record {
      before = a.before ++ fields ∷ [];
      gathered = em ∙ with_more place a.before fields g n a.gathered a.number;
      number = omega arith;
      each = All-append (λ (f : Fields). length f ≡ length header) a.before (fields ∷ []) a.each
          (one_is fields (length header) even);
      expects = gave.expects ∙ ap Some even;
      behind = gave.behind;
      short = omega arith;
      same = a.same ∙ ap (answer_behind room place header a.before) gave.first
          ∙ answer_goes room place header a.before fields _
          (shown_by_room room place (length header) a.before fields false even texts
          (sym (full_alike room place a.before fields g n a.gathered a.number) ∙ room_left));
    }

-- ---- what a read gave

-- a read that found no record
pub none_given : {R : Type 0} (rem : R → Option (List ℕ)) (d : Delimiter) (n : ℕ) (old new : Reader R)
    (o : Option Row)
    → o ≡ None → IsNextTexts rem d n old new (Ok o) → IsNextTexts rem d n old new (Ok None)
none_given rem d n old new None e h = h
none_given rem d n old new (Some texts) e h = absurd cc

-- a read that found this one
pub record_given : {R : Type 0} (rem : R → Option (List ℕ)) (d : Delimiter) (n : ℕ) (old new : Reader R)
    (o : Option Row) (texts : Row)
    → o ≡ Some texts → IsNextTexts rem d n old new (Ok o)
    → Gave rem d old new (fields_of texts) × (are_texts (fields_of texts) ≡ true)
record_given rem d n old new None texts e h = absurd cc
record_given rem d n old new (Some found) texts e h =
    let same : found ≡ texts = cc in
    subst (λ (r : Row). Gave rem d old new (fields_of r) × (are_texts (fields_of r) ≡ true)) same h

-- before the first record behind a header
pub begun : {R : Type 0} (rem : R → Option (List ℕ)) (d : Delimiter) (room : Room) (place : ℕ)
    (header : Fields) (start : Reader R) (g : Gathered)
    → IsBetween rem d start → start.expected ≡ Some (length header) → g ≡ gathered_of place []
    → Along rem d room place header start start g 1
begun rem d room place header start g between expects e = record {
  before = [];
  gathered = e;
  number = refl;
  each = λ k d h. absurd (omega arith);
  expects = expects;
  behind = between;
  short = omega arith;
  same = refl;
}
