-- The lines of a journal's text, read back.
use Rattle.std.proofs.Common.{◌≡◌, ◌∙◌, ap, refl, ℕ, zero, suc, ◌+◌, ◌*◌, ◌/◌, ◌%◌, ◌^◌, ◌<◌, ◌==◌}
use Rattle.std.proofs.Common.{Bool, true, false, ◌&&◌, List, [], ◌∷◌, ◌++◌, append_assoc, arith, if◌then◌else◌}
use Rattle.std.proofs.Common.{ℤ, pos, negsuc, Option, Some, None, option_map, option_and_then, nat_lt, cond, drop}
use Rattle.std.proofs.Common.{neg_ℤ, flat_map}
use Rattle.std.specs.Prelude.{codes, decimal}
use Rattle.std.specs.Char.{digit_value}
use Rattle.std.specs.Fmt.{signed_decimal}
use Rattle.std.specs.Int.Signed.{mag}
use Rattle.std.specs.List.{list_all, AllByRecursion}
use Rattle.std.specs.Str.Parse.{AllDigits, IsNumeral, digits_value, digits_value_after, signed_digits_value}
use Rattle.std.proofs.lemmas.Bool.{and_parts, true≢false, lt-ltb, ltb-true, ne_eqb, eqb-true}
use Rattle.std.proofs.lemmas.Bool.Decides.{nat_tests}
use Rattle.std.proofs.lemmas.Fmt.{decimal_is_IsNumeral}
use Rattle.std.proofs.lemmas.List.Folds.{list_all-append}
use Rattle.std.proofs.lemmas.List.Sums.{sum_by-cons}
use Rattle.std.proofs.lemmas.Str.Parse.{digit_from_value}
use Rattle.std.proofs.Math.Nat.{pow-succ'}
use Rattle.cv_model.specs.declared.edit.Edit.{Edit}
use Rattle.cv_model.specs.declared.edit.EditError.{EditError}
use Rattle.cv_model.specs.declared.edit.EditError.TheVariants as error
use Rattle.cv_event.specs.declared.entry.Act.{Act}
use Rattle.cv_event.specs.declared.entry.Act.TheVariants as act
use Rattle.cv_event.specs.declared.entry.Fate.{Fate}
use Rattle.cv_event.specs.declared.entry.Fate.TheVariants.{Stored, Kept, Dropped}
use Rattle.cv_event.specs.declared.refused.Reason.{Reason}
use Rattle.cv_event.specs.declared.refused.Reason.TheVariants as reason
use Rattle.cv_event.specs.Lines.{ended, line, verdict_word, hit_word, fate_word, reason_word, act_words}
use Rattle.cv_event.specs.Lines.{set_bits, listed_slots, slots_word}
use Rattle.cv_event.specs.Readings.{byte_before, words_of_line, read_line, with_word, verdicts, answers, fates}
use Rattle.cv_event.specs.Readings.{reasons, number, numbers_from, slots_in, bits_of, act_in, entry_of}
use Rattle.cv_event.specs.Readings.{refused_of, with_edit, IsShort, IsLong, FitsAct}
use Rattle.cv_event.specs.TextLaws.{LineTellsEntry, LineTellsRefused}

-- ---- the words of a line

-- a word's bytes are above the space
abbrev pub IsPlain : List ℕ → Type 0
IsPlain word = list_all (nat_lt 32) word ≡ true

-- a byte above the space ends no word and no line
ends_line : (c : ℕ) → nat_lt 32 c ≡ true → (c == 10) ≡ false
ends_line c above = ne_eqb c 10 (λ e. omega (arith, ltb-true 32 c above, e))

ends_word : (c : ℕ) → nat_lt 32 c ≡ true → (c == 32) ≡ false
ends_word c above = ne_eqb c 32 (λ e. omega (arith, ltb-true 32 c above, e))

-- what a byte makes of the words behind it, which ends the line or a word or neither
abbrev at_byte : Bool → Bool → ℕ → List ℕ → Option (List (List ℕ) × List ℕ) → Option (List (List ℕ) × List ℕ)
at_byte x y c behind o =
    if x then Some ([] ∷ [], behind) else option_map (λ r. (byte_before y c r.0, r.1)) o

byte_read : (c : ℕ) (x y : Bool) → x ≡ false → y ≡ false → (cs : List ℕ) (words : List (List ℕ)) (behind rest : List ℕ)
    (o : Option (List (List ℕ) × List ℕ)) → o ≡ Some (cs ∷ words, rest)
    → at_byte x y c behind o ≡ Some ((c ∷ cs) ∷ words, rest)
byte_read c true y e f cs words behind rest o h = absurd (true≢false e)
byte_read c false true e f cs words behind rest o h = absurd (true≢false f)
byte_read c false false e f cs words behind rest o h = ap (option_map (λ r. (byte_before false c r.0, r.1))) h

-- a word in front of what begins a new word
word_read : (word : List ℕ) → IsPlain word → (tail : List ℕ) (words : List (List ℕ)) (rest : List ℕ)
    → words_of_line tail ≡ Some ([] ∷ words, rest) → words_of_line (word ++ tail) ≡ Some (word ∷ words, rest)
word_read [] plain tail words rest h = h
word_read (c ∷ cs) plain tail words rest h =
    let parts = and_parts (nat_lt 32 c) (list_all (nat_lt 32) cs) plain in
    byte_read c (c == 10) (c == 32) (ends_line c parts.0) (ends_word c parts.0) cs words (cs ++ tail) rest
    (words_of_line (cs ++ tail)) (word_read cs parts.1 tail words rest h)

ended_read : (words : List (List ℕ)) → AllByRecursion IsPlain words → (rest : List ℕ)
    → words_of_line (ended words ++ rest) ≡ Some ([] ∷ words, rest)
ended_read [] plain rest = refl
ended_read (word ∷ words) plain rest =
    ap (λ text. option_map (λ r. (byte_before true 32 r.0, r.1)) (words_of_line text))
    (append_assoc word (ended words) rest)
    ∙ ap (option_map (λ r. (byte_before true 32 r.0, r.1)))
    (word_read word plain.0 (ended words ++ rest) words rest (ended_read words plain.1 rest))

-- a line's words are read back
pub line_words : (first : List ℕ) (words : List (List ℕ)) (rest : List ℕ) → IsPlain first
    → AllByRecursion IsPlain words → words_of_line (line first words ++ rest) ≡ Some (first ∷ words, rest)
line_words first words rest one all =
    ap words_of_line (append_assoc first (ended words) rest)
    ∙ word_read first one (ended words ++ rest) words rest (ended_read words all rest)

-- and so is what they tell
line_read : {A : Type 0} (read : List (List ℕ) → Option A) (first : List ℕ) (words : List (List ℕ)) (x : A)
    (rest : List ℕ) → IsPlain first → AllByRecursion IsPlain words → read (first ∷ words) ≡ Some x
    → read_line read (line first words ++ rest) ≡ Some (x, rest)
line_read read first words x rest one all h =
    ap (option_and_then (λ r. option_map (λ x. (x, r.1)) (read r.0))) (line_words first words rest one all)
    ∙ ap (option_map (λ x. (x, rest))) h

-- ---- numbers

digits_plain : (ds : List ℕ) → AllDigits 10 ds → IsPlain ds
digits_plain [] all = refl
digits_plain (c ∷ cs) all =
    let range = digit_from_value c all.0 in
    λ i. lt-ltb 32 c (omega (arith, range.0)) i && digits_plain cs all.1 i

pub decimal_plain : (n : ℕ) → IsLong n → IsPlain (decimal n)
decimal_plain n small = digits_plain (decimal n) (decimal_is_IsNumeral n small).0.1

pub decimal_read : (n : ℕ) → IsLong n → number (decimal n) ≡ n
decimal_read n small = (decimal_is_IsNumeral n small).1

pub long : (n : ℕ) → IsShort n → IsLong n
long n small = omega (arith, small)

-- digits are neither a sign nor a comma
no_minus : (c : ℕ) → digit_value c < 10 → (c == 45) ≡ false
no_minus c digit = ne_eqb c 45 (λ e. omega (arith, (digit_from_value c digit).0, e))

no_plus : (c : ℕ) → digit_value c < 10 → (c == 43) ≡ false
no_plus c digit = ne_eqb c 43 (λ e. omega (arith, (digit_from_value c digit).0, e))

no_comma : (c : ℕ) → digit_value c < 10 → (c == 44) ≡ false
no_comma c digit = ne_eqb c 44 (λ e. omega (arith, (digit_from_value c digit).0, e))

unsigned_read : (ds : List ℕ) → IsNumeral 10 ds → signed_digits_value 10 ds ≡ pos (digits_value 10 ds)
unsigned_read [] is = absurd (omega (arith, is.0))
unsigned_read (c ∷ cs) is =
    let minus = no_minus c is.1.0 in
    let plus = no_plus c is.1.0 in
    λ i. cond (minus i)
    (neg_ℤ (pos (digits_value 10 (cond (minus i) (drop 1 (c ∷ cs)) (drop (cond (plus i) 1 0) (c ∷ cs))))))
    (pos (digits_value 10 (cond (minus i) (drop 1 (c ∷ cs)) (drop (cond (plus i) 1 0) (c ∷ cs)))))

signed_read : (z : ℤ) → mag z < 2 ^ 63 → signed_digits_value 10 (signed_decimal z) ≡ z
signed_read (pos n) small =
    let is = decimal_is_IsNumeral n (omega (arith, small)) in
    unsigned_read (decimal n) is.0 ∙ ap pos is.1
signed_read (negsuc n) small = ap (λ m. neg_ℤ (pos m)) (decimal_is_IsNumeral (suc n) (omega (arith, small))).1

signed_plain : (z : ℤ) → mag z < 2 ^ 63 → IsPlain (signed_decimal z)
signed_plain (pos n) small = decimal_plain n (omega (arith, small))
signed_plain (negsuc n) small = decimal_plain (suc n) (omega (arith, small))

-- ---- words

verdict_plain : (v : Option EditError) → IsPlain (verdict_word v)
verdict_plain None = refl
verdict_plain (Some error.UnknownLayer) = refl
verdict_plain (Some error.UnknownFeature) = refl
verdict_plain (Some error.WrongKind) = refl
verdict_plain (Some error.DuplicateId) = refl
verdict_plain (Some error.Limit) = refl
verdict_plain (Some error.BadPlace) = refl
verdict_plain (Some error.NoMemory) = refl

verdict_read : (v : Option EditError) → with_word verdict_word verdicts (verdict_word v) ≡ Some v
verdict_read None = refl
verdict_read (Some error.UnknownLayer) = refl
verdict_read (Some error.UnknownFeature) = refl
verdict_read (Some error.WrongKind) = refl
verdict_read (Some error.DuplicateId) = refl
verdict_read (Some error.Limit) = refl
verdict_read (Some error.BadPlace) = refl
verdict_read (Some error.NoMemory) = refl

hit_plain : (b : Bool) → IsPlain (hit_word b)
hit_plain true = refl
hit_plain false = refl

hit_read : (b : Bool) → with_word hit_word answers (hit_word b) ≡ Some b
hit_read true = refl
hit_read false = refl

fate_plain : (f : Fate) → IsPlain (fate_word f)
fate_plain Stored = refl
fate_plain Kept = refl
fate_plain Dropped = refl

fate_read : (f : Fate) → with_word fate_word fates (fate_word f) ≡ Some f
fate_read Stored = refl
fate_read Kept = refl
fate_read Dropped = refl

pub reason_plain : (r : Reason) → IsPlain (reason_word r)
reason_plain reason.UnknownLayer = refl
reason_plain reason.UnknownFeature = refl
reason_plain reason.WrongKind = refl
reason_plain reason.DuplicateId = refl
reason_plain reason.Limit = refl
reason_plain reason.BadPlace = refl
reason_plain reason.UnknownCanvas = refl
reason_plain reason.Empty = refl
reason_plain reason.Range = refl
reason_plain reason.NoView = refl
reason_plain reason.TooManyJobs = refl
reason_plain reason.NoJob = refl
reason_plain reason.EndedFinished = refl
reason_plain reason.EndedCancelled = refl
reason_plain reason.EndedNoMemory = refl
reason_plain reason.HeldFull = refl
reason_plain reason.Nothing = refl
reason_plain reason.NothingHeld = refl

reason_read : (r : Reason) → with_word reason_word reasons (reason_word r) ≡ Some r
reason_read reason.UnknownLayer = refl
reason_read reason.UnknownFeature = refl
reason_read reason.WrongKind = refl
reason_read reason.DuplicateId = refl
reason_read reason.Limit = refl
reason_read reason.BadPlace = refl
reason_read reason.UnknownCanvas = refl
reason_read reason.Empty = refl
reason_read reason.Range = refl
reason_read reason.NoView = refl
reason_read reason.TooManyJobs = refl
reason_read reason.NoJob = refl
reason_read reason.EndedFinished = refl
reason_read reason.EndedCancelled = refl
reason_read reason.EndedNoMemory = refl
reason_read reason.HeldFull = refl
reason_read reason.Nothing = refl
reason_read reason.NothingHeld = refl

-- ---- slots

numbers_more : (ds : List ℕ) → AllDigits 10 ds → (n : ℕ) (more : List ℕ)
    → numbers_from n (ds ++ more) ≡ numbers_from (digits_value_after 10 n ds) more
numbers_more [] all n more = refl
numbers_more (c ∷ cs) all n more =
    ap (λ b. if b then n ∷ numbers_from 0 (cs ++ more) else numbers_from (n * 10 + digit_value c) (cs ++ more))
    (no_comma c all.0)
    ∙ numbers_more cs all.1 (n * 10 + digit_value c) more

-- a number in front of what begins with a comma, or of nothing
number_more : (n : ℕ) → IsLong n → (more : List ℕ) → numbers_from 0 (decimal n ++ more) ≡ numbers_from n more
number_more n small more =
    let is = decimal_is_IsNumeral n small in
    numbers_more (decimal n) is.0.1 0 more ∙ ap (λ m. numbers_from m more) is.1

numbers_read : (rest : List ℕ) → AllByRecursion IsLong rest → (n : ℕ)
    → numbers_from n (flat_map (λ other. 44 ∷ decimal other) rest) ≡ n ∷ rest
numbers_read [] all n = refl
numbers_read (m ∷ rest) all n =
    ap (λ ms. n ∷ ms) (number_more m all.0 (flat_map (λ other. 44 ∷ decimal other) rest) ∙ numbers_read rest all.1 m)

no_dash : (ds more : List ℕ) → IsNumeral 10 ds → slots_in (ds ++ more) ≡ numbers_from 0 (ds ++ more)
no_dash [] more is = absurd (omega (arith, is.0))
no_dash (c ∷ cs) more is =
    ap (λ b. if b then [] else numbers_from 0 (c ∷ (cs ++ more))) (no_minus c is.1.0)

slots_read : (slots : List ℕ) → AllByRecursion IsLong slots → slots_in (slots_word slots) ≡ slots
slots_read [] all = refl
slots_read (slot ∷ rest) all =
    let more = flat_map (λ other. 44 ∷ decimal other) rest in
    no_dash (decimal slot) more (decimal_is_IsNumeral slot all.0).0 ∙ number_more slot all.0 more
    ∙ numbers_read rest all.1 slot

plain_more : (xs ys : List ℕ) → IsPlain xs → IsPlain ys → IsPlain (xs ++ ys)
plain_more xs ys p q = list_all-append (nat_lt 32) xs ys ∙ λ i. p i && q i

others_plain : (rest : List ℕ) → AllByRecursion IsLong rest → IsPlain (flat_map (λ other. 44 ∷ decimal other) rest)
others_plain [] all = refl
others_plain (m ∷ rest) all =
    plain_more (decimal m) (flat_map (λ other. 44 ∷ decimal other) rest) (decimal_plain m all.0)
    (others_plain rest all.1)

slots_plain : (slots : List ℕ) → AllByRecursion IsLong slots → IsPlain (slots_word slots)
slots_plain [] all = refl
slots_plain (slot ∷ rest) all =
    plain_more (decimal slot) (flat_map (λ other. 44 ∷ decimal other) rest) (decimal_plain slot all.0)
    (others_plain rest all.1)

-- the numbers of set bits are small, and give the bits back
set_long : (left k bits : ℕ) → k + left < 2 ^ 64 → AllByRecursion IsLong (set_bits left k bits)
set_long zero k bits small = tt
set_long (suc left) k bits small =
    by (bits % 2 == 1) (set_bits left (k + 1) (bits / 2)) (set_long left (k + 1) (bits / 2) (omega (arith, small)))
  where
    by : (b : Bool) (rest : List ℕ) → AllByRecursion IsLong rest → AllByRecursion IsLong (if b then k ∷ rest else rest)
    by true rest all = (omega (arith, small), all)
    by false rest all = all

bit_more : (k bits : ℕ) (rest : List ℕ) (b : Bool) → (bits % 2 == 1) ≡ b → bits_of rest ≡ 2 ^ (k + 1) * (bits / 2)
    → bits_of (if b then k ∷ rest else rest) ≡ 2 ^ k * bits
bit_more k bits rest true e h =
    let odd : bits ≡ 2 * (bits / 2) + 1 = omega (arith, eqb-true (bits % 2) 1 e) in
    let next : k + 1 ≡ suc k = omega arith in
    let power : 2 ^ (k + 1) ≡ 2 * 2 ^ k = ap (λ n. 2 ^ n) next ∙ pow-succ' 2 k in
    sum_by-cons (λ k. 2 ^ k) k rest
    ∙ omega (arith, h, ap (λ n. 2 ^ k * n) odd, ap (λ p. p * (bits / 2)) power)
bit_more k bits rest false e h =
    let even : bits ≡ 2 * (bits / 2) = grind (arith, nat_tests) in
    let next : k + 1 ≡ suc k = omega arith in
    let power : 2 ^ (k + 1) ≡ 2 * 2 ^ k = ap (λ n. 2 ^ n) next ∙ pow-succ' 2 k in
    omega (arith, h, ap (λ n. 2 ^ k * n) even, ap (λ p. p * (bits / 2)) power)

set_read : (left k bits : ℕ) → bits < 2 ^ left → bits_of (set_bits left k bits) ≡ 2 ^ k * bits
set_read zero k bits small =
    let none : bits ≡ 0 = omega (arith, small) in
    omega (arith, ap (λ n. 2 ^ k * n) none)
set_read (suc left) k bits small =
    let half : bits / 2 < 2 ^ left = omega (arith, small, pow-succ' 2 left) in
    bit_more k bits (set_bits left (k + 1) (bits / 2)) (bits % 2 == 1) refl (set_read left (k + 1) (bits / 2) half)

listed_long : (bits : ℕ) → AllByRecursion IsLong (listed_slots bits)
unfolding listed_slots
listed_long bits = set_long 32 0 bits (omega arith)

listed_read : (bits : ℕ) → IsShort bits → bits_of (listed_slots bits) ≡ bits
unfolding listed_slots
listed_read bits small = set_read 32 0 bits small ∙ omega arith

-- ---- acts

pub act_plain : (edits : ℕ) (a : Act) → IsLong edits → FitsAct a → AllByRecursion IsPlain (act_words edits a)
act_plain edits (act.Edit e v) n f = (refl, (decimal_plain edits n, (verdict_plain v, tt)))
act_plain edits (act.View c view) n f =
    (refl, (decimal_plain c (long c f.0), (signed_plain view.lx2 f.1.left, (signed_plain view.ty2 f.1.top, (signed_plain view.u f.1.unit, (decimal_plain view.w (long view.w f.1.width), (decimal_plain view.h (long view.h f.1.height), tt)))))))
act_plain edits (act.Start c j) n f = (refl, (decimal_plain c (long c f.0), (decimal_plain j (long j f.1), tt)))
act_plain edits (act.Look j at hit) n f =
    (refl, (decimal_plain j (long j f.0), (decimal_plain at (long at f.1), (hit_plain hit, tt))))
act_plain edits (act.Deliver j at fate) n f =
    (refl, (decimal_plain j (long j f.0), (decimal_plain at (long at f.1), (fate_plain fate, tt))))
act_plain edits (act.Compose j) n f = (refl, (decimal_plain j (long j f), tt))
act_plain edits (act.Finish j) n f = (refl, (decimal_plain j (long j f), tt))
act_plain edits (act.Fail j) n f = (refl, (decimal_plain j (long j f), tt))
act_plain edits (act.Cancel j) n f = (refl, (decimal_plain j (long j f), tt))
act_plain edits (act.Preview j bits) n f =
    (refl, (decimal_plain j (long j f.0), (slots_plain (listed_slots bits) (listed_long bits), tt)))
act_plain edits (act.Save c j) n f = (refl, (decimal_plain c (long c f.0), (decimal_plain j (long j f.1), tt)))

short_read : (n : ℕ) → IsShort n → number (decimal n) ≡ n
short_read n small = decimal_read n (long n small)

act_read : (e : Edit) (edits : ℕ) (a : Act) → FitsAct a → act_in e (act_words edits a) ≡ Some (with_edit e a)
act_read e edits (act.Edit d v) f = ap (option_map (act.Edit e)) (verdict_read v)
act_read e edits (act.View c view) f =
    λ i. Some (act.View (short_read c f.0 i) (record {
      lx2 = signed_read view.lx2 f.1.left i;
      ty2 = signed_read view.ty2 f.1.top i;
      u = signed_read view.u f.1.unit i;
      w = short_read view.w f.1.width i;
      h = short_read view.h f.1.height i;
    }))
act_read e edits (act.Start c j) f = λ i. Some (act.Start (short_read c f.0 i) (short_read j f.1 i))
act_read e edits (act.Look j at hit) f =
    λ i. option_map (act.Look (short_read j f.0 i) (short_read at f.1 i)) (hit_read hit i)
act_read e edits (act.Deliver j at fate) f =
    λ i. option_map (act.Deliver (short_read j f.0 i) (short_read at f.1 i)) (fate_read fate i)
act_read e edits (act.Compose j) f = λ i. Some (act.Compose (short_read j f i))
act_read e edits (act.Finish j) f = λ i. Some (act.Finish (short_read j f i))
act_read e edits (act.Fail j) f = λ i. Some (act.Fail (short_read j f i))
act_read e edits (act.Cancel j) f = λ i. Some (act.Cancel (short_read j f i))
act_read e edits (act.Preview j bits) f =
    let listed = ap bits_of (slots_read (listed_slots bits) (listed_long bits)) ∙ listed_read bits f.1 in
    λ i. Some (act.Preview (short_read j f.0 i) (listed i))
act_read e edits (act.Save c j) f = λ i. Some (act.Save (short_read c f.0 i) (short_read j f.1 i))

-- ---- lines

pub line_tells_entry : LineTellsEntry
line_tells_entry e place edits entry rest p n f =
    line_read _ (decimal place) (decimal entry.caller ∷ act_words edits entry.act) _ rest (decimal_plain place p)
    (decimal_plain entry.caller (long entry.caller f.0), act_plain edits entry.act n f.1)
    (λ i. option_map (entry_of (short_read entry.caller f.0 i)) (act_read e edits entry.act f.1 i))

pub line_tells_refused : LineTellsRefused
line_tells_refused r rest f =
    line_read _ (codes "refused") (decimal r.line ∷ decimal r.seen ∷ reason_word r.reason ∷ []) _ rest refl
    (decimal_plain r.line (long r.line f.0), (decimal_plain r.seen f.1, (reason_plain r.reason, tt)))
    (λ i. option_map (refused_of (short_read r.line f.0 i) (decimal_read r.seen f.1 i)) (reason_read r.reason i))
