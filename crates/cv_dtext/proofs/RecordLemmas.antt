-- The records of a text, one after the other: each read takes at least a byte, and stops between two records.
use Rattle.std.proofs.Common.{◌≡◌, ◌∙◌, ap, sym, refl, subst, ℕ, ◌==◌, zero, suc, ◌+◌, ◌-◌, ◌≤◌, ◌<◌, Bool}
use Rattle.std.proofs.Common.{true, false, if◌then◌else◌, List, [], ◌∷◌, ◌++◌, length, Option, Some, None}
use Rattle.std.proofs.Common.{arith}
use Rattle.std.proofs.lemmas.Bool.{false≢true}
use Rattle.csv.specs.declared.parser.Config.{Config}
use Rattle.csv.specs.declared.parser.State.{State}
use Rattle.csv.specs.declared.parser.State.TheVariants as st
use Rattle.csv.specs.declared.parser.Action.{Action}
use Rattle.csv.specs.declared.parser.Action.TheVariants as act
use Rattle.csv.specs.declared.parser.Terminator.{Terminator}
use Rattle.csv.specs.declared.parser.Terminator.TheVariants as term
use Rattle.csv.specs.Machine.{Read, after_end, is_end, ends_at_end, in_field, start_field, start_record, step}
use Rattle.csv.specs.Machine.{fields_after, field_after, next_record}
use Rattle.csv.specs.Reading.{records_from, records_next}
use Rattle.cv_model.specs.declared.delimiter.Delimiter.{Delimiter}
use Rattle.cv_dtext.specs.Records.{config_of}
use Rattle.cv_dtext.specs.Records.{records_behind}

-- a step that ends a record stops between two records
record StopsBetween (r : State × Action) : Type 0 where
  stops : is_end r.1 ≡ true → ends_at_end r.0 ≡ false

either_stops : (b : Bool) (x y : State × Action) → StopsBetween x → StopsBetween y
    → StopsBetween (if b then x else y)
either_stops true x y px py = px
either_stops false x y px py = py

feed_stops : (b : Bool) → ends_at_end (if b then st.AfterCr else st.StartRecord) ≡ false
feed_stops true = refl
feed_stops false = refl

end_stops : (t : Terminator) (c : ℕ) → ends_at_end (after_end t c) ≡ false
end_stops term.CRLF c = feed_stops (c == 13)
end_stops (term.Any t) c = refl

skip_stops : (s : State) → StopsBetween (s, act.Skip)
skip_stops s = record { stops = λ e. absurd (false≢true e) }

copy_stops : (s : State) → StopsBetween (s, act.Copy)
copy_stops s = record { stops = λ e. absurd (false≢true e) }

field_ends : (s : State) → StopsBetween (s, act.EndField)
field_ends s = record { stops = λ e. absurd (false≢true e) }

in_field_stops : (cfg : Config) (c : ℕ) → StopsBetween (in_field cfg c)
in_field_stops cfg c =
    either_stops _ _ _ (field_ends st.StartField)
    (either_stops _ _ _ (record { stops = λ e. end_stops cfg.terminator c }) (copy_stops st.InField))

start_field_stops : (cfg : Config) (c : ℕ) → StopsBetween (start_field cfg c)
start_field_stops cfg c = either_stops _ _ _ (skip_stops st.InQuoted) (in_field_stops cfg c)

start_record_stops : (cfg : Config) (c : ℕ) → StopsBetween (start_record cfg c)
start_record_stops cfg c =
    either_stops _ _ _ (skip_stops st.StartRecord)
    (either_stops _ _ _ (skip_stops st.InComment) (start_field_stops cfg c))

step_stops : (cfg : Config) (s : State) (c : ℕ) → StopsBetween (step cfg s c)
step_stops cfg st.StartRecord c = start_record_stops cfg c
step_stops cfg st.StartField c = start_field_stops cfg c
step_stops cfg st.InField c = in_field_stops cfg c
step_stops cfg st.InQuoted c =
    either_stops _ _ _ (skip_stops st.AfterQuote)
    (either_stops _ _ _ (skip_stops st.InEscape) (copy_stops st.InQuoted))
step_stops cfg st.InEscape c = copy_stops st.InQuoted
step_stops cfg st.AfterQuote c = either_stops _ _ _ (copy_stops st.InQuoted) (in_field_stops cfg c)
step_stops cfg st.InComment c = either_stops _ _ _ (skip_stops st.StartRecord) (skip_stops st.InComment)
step_stops cfg st.AfterCr c = either_stops _ _ _ (skip_stops st.StartRecord) (start_record_stops cfg c)

-- a record was read of a text: fewer bytes are left, where there were any, and the reader stands between two
-- records
pub record Leaves (text : List ℕ) (p : Read) : Type 0 where
  pub fewer : length p.2 ≤ length text - 1
  pub between : ends_at_end p.1 ≡ false

leaves_end : (s : State) (f : List (List ℕ)) (b : Bool) (p : Read)
    → (if b then Some (f, st.StartRecord, []) else None) ≡ Some p → Leaves [] p
leaves_end s f true p e =
    let e2 : (f, st.StartRecord, []) ≡ p = cc in
    subst (Leaves []) e2 (record { fewer = omega arith; between = refl })
leaves_end s f false p e = absurd cc

leaves_token : (c : ℕ) (rest : List ℕ) (r : State × Action) (f : List (List ℕ)) (o : Option Read) (b : Bool)
    (p : Read)
    → is_end r.1 ≡ b → StopsBetween r → (o ≡ Some p → Leaves rest p)
    → (if b then Some (f, r.0, rest) else o) ≡ Some p → Leaves (c ∷ rest) p
leaves_token c rest r f o true p h stops more e =
    let e2 : (f, r.0, rest) ≡ p = cc in
    subst (Leaves (c ∷ rest)) e2 (record { fewer = omega arith; between = stops.stops h })
leaves_token c rest r f o false p h stops more e =
    let l = more e in let fewer = l.fewer in record { fewer = omega arith; between = l.between }

-- each record that is read leaves that
pub leaves : (cfg : Config) (text : List ℕ) (s : State) (fields : List (List ℕ)) (field : List ℕ) (p : Read)
    → next_record cfg s fields field text ≡ Some p → Leaves text p
unfolding next_record
leaves cfg [] s fields field p e = leaves_end s (fields ++ (field ∷ [])) (ends_at_end s) p e
leaves cfg (c ∷ rest) s fields field p e =
    let r = step cfg s c in
    leaves_token c rest r (fields_after r.1 fields field)
    (next_record cfg r.0 (fields_after r.1 fields field) (field_after r.1 c field) rest)
    (is_end r.1) p refl (step_stops cfg s c)
    (leaves cfg rest r.0 (fields_after r.1 fields field) (field_after r.1 c field) p) e

none_there : (x y : Read) (b : Bool) → b ≡ false → (if b then Some x else None) ≡ Some y → ⊥
none_there x y true h e = absurd (false≢true (sym h))
none_there x y false h e = absurd cc

-- between two records, a record that is read takes a byte
pub takes_byte : (cfg : Config) (text : List ℕ) (s : State) (p : Read) → ends_at_end s ≡ false
    → next_record cfg s [] [] text ≡ Some p → length p.2 < length text
unfolding next_record
takes_byte cfg [] s p h e = absurd (none_there ([] ++ ([] ∷ []), st.StartRecord, []) p (ends_at_end s) h e)
takes_byte cfg (c ∷ rest) s p h e = let fewer = (leaves cfg (c ∷ rest) s [] [] p e).fewer in omega arith

-- behind a record that is read, and where none is
same_after : (cfg : Config) (n m : ℕ) (s : State) (text : List ℕ) (o : Option Read)
    → ((p : Read) → o ≡ Some p → records_from cfg n p.1 p.2 ≡ records_from cfg m p.1 p.2)
    → records_next (records_from cfg n) o ≡ records_next (records_from cfg m) o
same_after cfg n m s text None same = refl
same_after cfg n m s text (Some p) same = ap (λ records. p.0 ∷ records) (same p refl)

-- with more turns than bytes, the records are the same
pub same_records : (cfg : Config) (n m : ℕ) (s : State) (text : List ℕ) → ends_at_end s ≡ false
    → length text < n → length text < m
    → records_from cfg n s text ≡ records_from cfg m s text
unfolding records_from
same_records cfg zero m s text between low high = absurd (omega arith)
same_records cfg (suc n) zero s text between low high = absurd (omega arith)
same_records cfg (suc n) (suc m) s text between low high =
    same_after cfg n m s text (next_record cfg s [] [] text) (λ p e.
    let byte = takes_byte cfg text s p between e in
    same_records cfg n m p.1 p.2 (leaves cfg text s [] [] p e).between (omega arith) (omega arith))

-- one turn reads one record
one_turn : (cfg : Config) (n : ℕ) (s : State) (text : List ℕ)
    → records_from cfg (n + 1) s text ≡ records_next (records_from cfg n) (next_record cfg s [] [] text)
unfolding records_from
one_turn cfg n s text = let more : n + 1 ≡ suc n = omega arith in ap (λ k. records_from cfg k s text) more

-- where no record can be read, none is left
pub left_none : (d : Delimiter) (s : State) (text : List ℕ) → next_record (config_of d) s [] [] text ≡ None
    → records_behind d s text ≡ []
unfolding records_behind
left_none d s text e = one_turn (config_of d) (length text) s text
    ∙ ap (records_next (records_from (config_of d) (length text))) e

-- a record that is read is the first of as many as there are turns
first_of : (cfg : Config) (n : ℕ) (s : State) (text : List ℕ) (p : Read)
    → next_record cfg s [] [] text ≡ Some p
    → records_from cfg (n + 1) s text ≡ p.0 ∷ records_from cfg n p.1 p.2
first_of cfg n s text p e = one_turn cfg n s text ∙ ap (records_next (records_from cfg n)) e

-- a record that is read is the first of those that are left
pub left_some : (d : Delimiter) (s : State) (text : List ℕ) (p : Read) → ends_at_end s ≡ false
    → next_record (config_of d) s [] [] text ≡ Some p
    → records_behind d s text ≡ p.0 ∷ records_behind d p.1 p.2
unfolding records_behind
left_some d s text p between e =
    let byte = takes_byte (config_of d) text s p between e in
    first_of (config_of d) (length text) s text p e
    ∙ ap (λ records. p.0 ∷ records)
    (same_records (config_of d) (length text) (length p.2 + 1) p.1 p.2
    (leaves (config_of d) text s [] [] p e).between (omega arith) (omega arith))
