-- One read of a reader between two records.
use Rattle.std.proofs.Common.{◌≡◌, ◌∙◌, ap, ap₂, sym, refl, subst, ℕ, ◌<◌, Bool, true, false, ◌&&◌, List, []}
use Rattle.std.proofs.Common.{◌∷◌, length, Option, Some, None, Ok, Err}
use Rattle.std.proofs.lemmas.Bool.{false≢true}
use Rattle.std.specs.Option.{unwrap_or}
use Rattle.std.specs.Str.{is_utf8}
use Rattle.std.proofs.lemmas.Str.{IsUtf8-from_is_utf8, is_utf8-from_IsUtf8}
use Rattle.csv.specs.Machine.{ends_at_end, next_record}
use Rattle.csv.specs.Records.{AllText, Row, fields_of}
use Rattle.csv.specs.declared.reader.Reader.{Reader}
use Rattle.cv_model.specs.declared.delimiter.Delimiter.{Delimiter}
use Rattle.cv_dtext.specs.declared.options.TextError.{TextError}
use Rattle.cv_dtext.specs.declared.options.TextError.TheVariants.{NoHeader, NoGeometryColumn, Uneven, NotUtf8}
use Rattle.cv_dtext.specs.declared.options.TextError.TheVariants.{TooMany, NoMemory}
use Rattle.cv_dtext.specs.Records.{Fields, config_of}
use Rattle.cv_dtext.specs.Records.{are_texts}
use Rattle.cv_dtext.specs.Records.{Took, IsUneven, IsNext, IsNextTexts, IsBetween, Gave, FirstIsUneven}
use Rattle.cv_dtext.specs.Records.{FirstIsNoText, bytes_left, records_left, records_behind}
use Rattle.cv_dtext.proofs.RecordLemmas.{left_none, left_some, takes_byte, leaves}

-- the record that was read is the first of those that were left
pub gave : {R : Type 0} (rem : R → Option (List ℕ)) (d : Delimiter) (old new : Reader R) (fields : Fields)
    → IsBetween rem d old → Took rem d old.state (bytes_left rem old) old.expected new fields
    → Gave rem d old new fields
gave rem d old new fields between took =
    let p = took.read in
    let left = ap (λ o. unwrap_or o []) took.stands.source in
    let state = took.stands.state in
    let same = sym took.fields_are in
    record {
      first = left_some d old.state (bytes_left rem old) p between.between took.next
          ∙ ap₂ (λ (f : Fields) (records : List Fields). f ∷ records) same
          (ap₂ (records_behind d) (sym state) (sym left));
      even = rw (← took.fields_are) at took.even;
      expects = took.stands.expects ∙ ap (λ (f : Fields). Some (length f)) same;
      fewer = subst (λ (ys : List ℕ). length ys < length (bytes_left rem old)) (sym left)
          (takes_byte (config_of d) (bytes_left rem old) old.state p between.between took.next);
      behind = record {
        stands = record {
          plain = took.stands.plain;
          ready = took.stands.ready;
          config = took.stands.config;
          strict = took.stands.strict;
          state = refl;
          expects = refl;
          source = took.stands.source ∙ ap Some (sym left);
        };
        between = ap ends_at_end state
            ∙ (leaves (config_of d) (bytes_left rem old) old.state [] [] p took.next).between;
      };
    }

-- no record was left
no_record : {R : Type 0} (rem : R → Option (List ℕ)) (d : Delimiter) (old : Reader R)
    → next_record (config_of d) old.state [] [] (bytes_left rem old) ≡ None → records_left rem d old ≡ []
no_record rem d old e = left_none d old.state (bytes_left rem old) e

-- the first of those that were left is uneven
pub uneven : {R : Type 0} (rem : R → Option (List ℕ)) (d : Delimiter) (old : Reader R)
    → IsBetween rem d old → IsUneven d old.state (bytes_left rem old) old.expected → FirstIsUneven rem d old
uneven rem d old between u = record {
  fields = u.read.0;
  rest = records_behind d u.read.1 u.read.2;
  first = left_some d old.state (bytes_left rem old) u.read between.between u.next;
  expected = u.expected;
  expects = u.expects;
  other = u.other;
}

both : (a b : Bool) → a ≡ true → b ≡ true → (a && b) ≡ true
both true b e f = f
both false b e f = absurd (false≢true e)

first_of : (a b : Bool) → (a && b) ≡ true → a ≡ true
first_of true b e = refl
first_of false b e = absurd (false≢true e)

second_of : (a b : Bool) → (a && b) ≡ true → b ≡ true
second_of true b e = e
second_of false b e = absurd (false≢true e)

-- fields that are texts pass the test
pub texts_pass : (fields : Fields) → AllText fields → are_texts fields ≡ true
unfolding AllText
texts_pass [] t = refl
texts_pass (f ∷ fs) t = both (is_utf8 f) (are_texts fs) (is_utf8-from_IsUtf8 f t.0) (texts_pass fs t.1)

-- fields that pass the test are texts
pub texts_from : (fields : Fields) → are_texts fields ≡ true → AllText fields
unfolding AllText
texts_from [] e = tt
texts_from (f ∷ fs) e = (
  IsUtf8-from_is_utf8 f (first_of (is_utf8 f) (are_texts fs) e),
  texts_from fs (second_of (is_utf8 f) (are_texts fs) e),
)

-- where a record of bytes was refused, some field is no text
pub no_texts : (fields : Fields) (b : Bool) → are_texts fields ≡ b → (AllText fields → ⊥)
    → are_texts fields ≡ false
no_texts fields true e refused = absurd (refused (texts_from fields e))
no_texts fields false e refused = e

-- the first of those that were left is no text
pub no_text : {R : Type 0} (rem : R → Option (List ℕ)) (d : Delimiter) (old new : Reader R) (fields : Fields)
    → Gave rem d old new fields → (AllText fields → ⊥) → FirstIsNoText rem d old
no_text rem d old new fields g refused = record {
  fields = fields;
  rest = records_left rem d new;
  first = g.first;
  even = g.even;
  no_text = no_texts fields (are_texts fields) refl refused;
}

-- a read of bytes that was refused refuses texts
pub refused_alike : {R : Type 0} (rem : R → Option (List ℕ)) (d : Delimiter) (n : ℕ) (old new : Reader R)
    (e : TextError)
    → IsBetween rem d old → IsNext rem d old.state (bytes_left rem old) old.expected n new (Err e)
    → IsNextTexts rem d n old new (Err e)
refused_alike rem d n old new (Uneven number) between h = (h.0, uneven rem d old between h.1)
refused_alike rem d n old new NoMemory between h = h
refused_alike rem d n old new NoHeader between h = h
refused_alike rem d n old new NoGeometryColumn between h = h
refused_alike rem d n old new (NotUtf8 number) between h = absurd h
refused_alike rem d n old new TooMany between h = h

-- a read that found no record
pub none_found : {R : Type 0} (rem : R → Option (List ℕ)) (d : Delimiter) (n : ℕ) (old new : Reader R)
    (o : Option Row)
    → o ≡ None → IsNext rem d old.state (bytes_left rem old) old.expected n new (Ok o)
    → records_left rem d old ≡ []
none_found rem d n old new None e h = no_record rem d old h
none_found rem d n old new (Some other) e h = absurd cc

-- a read that found this record
pub one_found : {R : Type 0} (rem : R → Option (List ℕ)) (d : Delimiter) (n : ℕ) (old new : Reader R)
    (o : Option Row) (texts : Row)
    → o ≡ Some texts → IsBetween rem d old
    → IsNext rem d old.state (bytes_left rem old) old.expected n new (Ok o)
    → Gave rem d old new (fields_of texts)
one_found rem d n old new None texts e between h = absurd cc
one_found rem d n old new (Some found) texts e between h =
    let same : found ≡ texts = cc in
    subst (λ (r : Row). Gave rem d old new (fields_of r)) same
    (gave rem d old new (fields_of found) between h)
