-- The machine of words reads the words as they are spelt.
use Rattle.std.proofs.Common.{◌≡◌, ◌↔◌, ℕ, ◌==◌, Bool, true, false, ◌&&◌, not, List, [], ◌∷◌}
use Rattle.std.proofs.Common.{◌++◌, Option, Some, None, option_map, IsSomeAnd, refl, sym, ap, subst, ◌∙◌}
use Rattle.std.proofs.Common.{append_assoc, append-nil, arith}
use Rattle.std.proofs.lemmas.Bool.Decides.{nat_tests}
use Rattle.std.specs.List.{list_all}
use Rattle.cv_reading.specs.Machines.{run}
use Rattle.cv_reading.specs.Readings.{Reads}
use Rattle.cv_reading.proofs.ReadingLemmas.{is_reading, same_reading, value_spelt}
use Rattle.cv_script.specs.declared.place.Place.{Place}
use Rattle.cv_script.specs.declared.place.Place.TheVariants.{Between, Bare, Quoted, Closed}
use Rattle.cv_script.specs.declared.place.Act.{Act}
use Rattle.cv_script.specs.declared.place.Act.TheVariants.{Skip, Keep, End}
use Rattle.cv_script.specs.Spelling.{is_separator, is_plain, doubled, SpellsWord, BareWord, QuotedWord}
use Rattle.cv_script.specs.Spelling.{is_end, SpellsLine}
use Rattle.cv_script.specs.Words.{next_of, Reading, with_byte, ended, word_reader, no_words, words_of}
use Rattle.cv_script.proofs.StyleLemmas.{both}

-- ---- what may still come

-- the end of a word, and the further words
abbrev Further : List ℕ → List (List ℕ) → Type 0
Further w us = (is_end w ≡ true) × SpellsLine w us

-- the rest of a bare word, and the further words
abbrev BareRest : List ℕ → List (List ℕ) → Type 0
BareRest w [] = ⊥
BareRest w (more ∷ us) =
    (rest : List ℕ) × (w ≡ more ++ rest) × (list_all is_plain more ≡ true) × Further rest us

-- the rest of a quoted word
abbrev QuotedRest : List ℕ → List (List ℕ) → Type 0
QuotedRest w [] = ⊥
QuotedRest w (more ∷ us) = (rest : List ℕ) × (w ≡ doubled more ++ 34 ∷ rest) × Further rest us

-- behind a quote in it: nothing, or a second quote and the rest
abbrev ClosedRest : List ℕ → List (List ℕ) → Type 0
ClosedRest w [] = ⊥
ClosedRest w ([] ∷ us) = Further w us
ClosedRest w ((b ∷ more) ∷ us) = (u : List ℕ) × (w ≡ 34 ∷ u) × (b ≡ 34) × QuotedRest u (more ∷ us)

-- bytes that complete a line of these words behind a place, where the first goes on the word that is read
abbrev Comes : Place → List ℕ → List (List ℕ) → Type 0
Comes Between w us = SpellsLine w us
Comes Bare w us = BareRest w us
Comes Quoted w us = QuotedRest w us
Comes Closed w us = ClosedRest w us

-- the same with a byte before them, of which this becomes
abbrev Behind : ℕ → Act → Place → List ℕ → List (List ℕ) → Type 0
Behind b Skip p w us = Comes p w us
Behind b Keep p w [] = ⊥
Behind b Keep p w ([] ∷ us) = ⊥
Behind b Keep p w ((c ∷ more) ∷ us) = (c ≡ b) × Comes p w (more ∷ us)
Behind b End p w [] = ⊥
Behind b End p w ([] ∷ us) = Comes p w us
Behind b End p w ((c ∷ more) ∷ us) = ⊥

-- ---- bytes

quote_is : (b : ℕ) → (b == 34) ≡ true → b ≡ 34
quote_is b h = grind (arith, nat_tests)

differ : (t : Bool) → t ≡ true → t ≡ false → ⊥
differ true h k = cc
differ false h k = cc

-- a byte equal to one that passes a test passes it
moved : (f : ℕ → Bool) (t : Bool) (b c : ℕ) → b ≡ c → f b ≡ t → f c ≡ t
moved f t b c same h = subst (λ z. f z ≡ t) same h

all_of : (f : ℕ → Bool) (b : ℕ) (bs : List ℕ) → f b ≡ true → list_all f bs ≡ true → list_all f (b ∷ bs) ≡ true
all_of f b bs h k = rw h k

plain_tests : (s q : Bool) → (not s && not q) ≡ true → (s ≡ false) × (q ≡ false)
plain_tests true q h = cc
plain_tests false true h = cc
plain_tests false false h = (refl, refl)

-- bytes of a bare word, the first of which is b
first_plain : (b c : ℕ) (cs : List ℕ) → b ≡ c → list_all is_plain (c ∷ cs) ≡ true
    → (is_separator b ≡ false) × ((b == 34) ≡ false)
first_plain b c cs same plain =
    let tests = plain_tests (is_separator c) (c == 34) (both (is_plain c) (list_all is_plain cs) plain).0 in
    (moved is_separator false c b (sym same) tests.0, moved (λ z. z == 34) false c b (sym same) tests.1)

plain_of : (b : ℕ) → is_separator b ≡ false → (b == 34) ≡ false → is_plain b ≡ true
plain_of b s q = rw (s, q) refl

doubled_quote : (b : ℕ) (bs : List ℕ) → (b == 34) ≡ true → doubled (b ∷ bs) ≡ 34 ∷ 34 ∷ doubled bs
doubled_quote b bs h = rw h refl

doubled_other : (b : ℕ) (bs : List ℕ) → (b == 34) ≡ false → doubled (b ∷ bs) ≡ b ∷ doubled bs
doubled_other b bs h = rw h refl

-- ---- the first byte of a word

-- the bytes of a word and what stands behind it: a bare word's first byte and its further bytes, or a quote
-- and the rest of a quoted word
data Opens (b : ℕ) (w word rest : List ℕ) : Type 0 where
  OpensBare : (c : ℕ) (cs : List ℕ) → word ≡ c ∷ cs → c ≡ b → w ≡ cs ++ rest
      → list_all is_plain (c ∷ cs) ≡ true → Opens b w word rest
  OpensQuoted : b ≡ 34 → w ≡ doubled word ++ 34 ∷ rest → Opens b w word rest

opens : (b : ℕ) (w bytes word rest : List ℕ) → SpellsWord bytes word → b ∷ w ≡ bytes ++ rest
    → Opens b w word rest
opens b w bytes [] rest (BareWord e plain) h = absurd (cc)
opens b w bytes (c ∷ cs) rest (BareWord e plain) h =
    let k : b ∷ w ≡ c ∷ (cs ++ rest) = subst (λ z. b ∷ w ≡ z ++ rest) e h in
    let head : c ≡ b = cc in
    let tail : w ≡ cs ++ rest = cc in OpensBare c cs refl head tail plain
opens b w bytes word rest (QuotedWord e) h =
    let k : b ∷ w ≡ 34 ∷ ((doubled word ++ 34 ∷ []) ++ rest) = subst (λ z. b ∷ w ≡ z ++ rest) e h in
    let head : b ≡ 34 = cc in
    let tail : w ≡ (doubled word ++ 34 ∷ []) ++ rest = cc in
    OpensQuoted head (tail ∙ append_assoc (doubled word) (34 ∷ []) rest)

-- no word begins with a separator
apart : (b : ℕ) (w word rest : List ℕ) → is_separator b ≡ true → Opens b w word rest → ⊥
apart b w word rest s (OpensBare c cs e same h plain) =
    differ (is_separator b) s (first_plain b c cs (sym same) plain).0
apart b w word rest s (OpensQuoted e h) = differ (is_separator 34) (moved is_separator true b 34 e s) refl

-- ---- between words

-- a separator in front of a line
gap_more : (b : ℕ) (w : List ℕ) (us : List (List ℕ)) → is_separator b ≡ true → SpellsLine w us
    → SpellsLine (b ∷ w) us
gap_more b w [] s h = all_of is_separator b w s h
gap_more b w (word ∷ us) s (gap, bytes, rest, e, g, k, n, h) =
    (b ∷ gap, bytes, rest, ap (λ z. b ∷ z) e, all_of is_separator b gap s g, k, n, h)

gap_less : (b : ℕ) (w : List ℕ) (us : List (List ℕ)) → is_separator b ≡ true → SpellsLine (b ∷ w) us
    → SpellsLine w us
gap_less b w [] s h = (both (is_separator b) (list_all is_separator w) h).1
gap_less b w (word ∷ us) s ([], bytes, rest, e, g, k, n, h) =
    absurd (apart b w word rest s (opens b w bytes word rest k e))
gap_less b w (word ∷ us) s (c ∷ gap, bytes, rest, e, g, k, n, h) =
    let f : b ∷ w ≡ c ∷ (gap ++ bytes ++ rest) = e in
    let tail : w ≡ gap ++ bytes ++ rest = cc in
    (gap, bytes, rest, tail, (both (is_separator c) (list_all is_separator gap) g).1, k, n, h)

-- a line whose first byte is no separator begins with a word
abbrev Begins : ℕ → List ℕ → List (List ℕ) → Type 0
Begins b w [] = ⊥
Begins b w (word ∷ us) = (rest : List ℕ) × Opens b w word rest × Further rest us

begins : (b : ℕ) (w : List ℕ) (us : List (List ℕ)) → is_separator b ≡ false → SpellsLine (b ∷ w) us
    → Begins b w us
begins b w [] s h = differ (is_separator b) (both (is_separator b) (list_all is_separator w) h).0 s
begins b w (word ∷ us) s ([], bytes, rest, e, g, k, n, h) = (rest, opens b w bytes word rest k e, (n, h))
begins b w (word ∷ us) s (c ∷ gap, bytes, rest, e, g, k, n, h) =
    let f : b ∷ w ≡ c ∷ (gap ++ bytes ++ rest) = e in
    let head : c ≡ b = cc in
    absurd (differ (is_separator b)
    (moved is_separator true c b head (both (is_separator c) (list_all is_separator gap) g).0) s)

-- a quote opens a quoted word
quote_first : (b : ℕ) (w : List ℕ) (us : List (List ℕ)) → (b == 34) ≡ true → Begins b w us → QuotedRest w us
quote_first b w [] q h = h
quote_first b w (word ∷ us) q (rest, OpensBare c cs e same k plain, f) =
    absurd (differ (b == 34) q (first_plain b c cs (sym same) plain).1)
quote_first b w (word ∷ us) q (rest, OpensQuoted e k, f) = (rest, k, f)

quote_back : (w : List ℕ) (us : List (List ℕ)) → QuotedRest w us → SpellsLine (34 ∷ w) us
quote_back w [] h = absurd h
quote_back w (word ∷ us) (rest, e, (n, h)) = (
  [],
  34 ∷ (doubled word ++ 34 ∷ []),
  rest,
  ap (λ z. 34 ∷ z) (e ∙ sym (append_assoc (doubled word) (34 ∷ []) rest)),
  refl,
  QuotedWord refl,
  n,
  h,
)

-- any other byte a bare one
plain_first : (b : ℕ) (w : List ℕ) (us : List (List ℕ)) → (b == 34) ≡ false → Begins b w us
    → Behind b Keep Bare w us
plain_first b w [] q h = h
plain_first b w (word ∷ us) q (rest, OpensBare c cs e same k plain, f) =
    subst (λ z. Behind b Keep Bare w (z ∷ us)) (sym e)
    (same, (rest, k, (both (is_plain c) (list_all is_plain cs) plain).1, f))
plain_first b w (word ∷ us) q (rest, OpensQuoted e k, f) =
    absurd (differ (34 == 34) refl (moved (λ z. z == 34) false b 34 e q))

plain_back : (b : ℕ) (w : List ℕ) (us : List (List ℕ)) → is_plain b ≡ true → Behind b Keep Bare w us
    → SpellsLine (b ∷ w) us
plain_back b w [] p h = absurd h
plain_back b w ([] ∷ us) p h = absurd h
plain_back b w ((c ∷ word) ∷ us) p (same, (rest, e, plain, (n, h))) = (
  [],
  c ∷ word,
  rest,
  (ap (λ z. z ∷ w) (sym same) ∙ ap (λ z. c ∷ z) e),
  refl,
  BareWord refl (all_of is_plain c word (moved is_plain true b c (sym same) p) plain),
  n,
  h,
)

-- ---- in a bare word

bare_sep : (b : ℕ) (w : List ℕ) (us : List (List ℕ)) → is_separator b ≡ true
    → BareRest (b ∷ w) us ↔ Behind b End Between w us
bare_sep b w [] s = (λ h. h, λ h. h)
bare_sep b w ([] ∷ us) s = (
  λ h. gap_less b w us s (subst (λ z. SpellsLine z us) (sym h.1) h.3.1),
  λ h. (b ∷ w, refl, refl, (s, gap_more b w us s h)),
)
bare_sep b w ((c ∷ more) ∷ us) s = (
  λ h.
      let f : b ∷ w ≡ c ∷ (more ++ h.0) = h.1 in
      let head : b ≡ c = cc in
      differ (is_separator b) s (first_plain b c more head h.2).0,
  λ h. absurd h,
)

-- neither a separator nor the end of one
bare_not : (b : ℕ) (w : List ℕ) (us : List (List ℕ)) → is_separator b ≡ false → BareRest (b ∷ w) ([] ∷ us) → ⊥
bare_not b w us s (rest, e, plain, (n, h)) =
    differ (is_separator b) (subst (λ z. is_end z ≡ true) (sym e) n) s

bare_quote : (b : ℕ) (w : List ℕ) (us : List (List ℕ)) → is_separator b ≡ false → (b == 34) ≡ true
    → BareRest (b ∷ w) us → ⊥
bare_quote b w [] s q h = h
bare_quote b w ([] ∷ us) s q h = bare_not b w us s h
bare_quote b w ((c ∷ more) ∷ us) s q (rest, e, plain, f) =
    let g : b ∷ w ≡ c ∷ (more ++ rest) = e in
    let head : b ≡ c = cc in differ (b == 34) q (first_plain b c more head plain).1

bare_plain : (b : ℕ) (w : List ℕ) (us : List (List ℕ)) → is_separator b ≡ false → (b == 34) ≡ false
    → BareRest (b ∷ w) us ↔ Behind b Keep Bare w us
bare_plain b w [] s q = (λ h. h, λ h. h)
bare_plain b w ([] ∷ us) s q = (λ h. bare_not b w us s h, λ h. absurd h)
bare_plain b w ((c ∷ more) ∷ us) s q = (
  λ h.
      let f : b ∷ w ≡ c ∷ (more ++ h.0) = h.1 in
      let head : c ≡ b = cc in
      let tail : w ≡ more ++ h.0 = cc in
      (head, (h.0, tail, (both (is_plain c) (list_all is_plain more) h.2).1, h.3)),
  λ h. (
    h.1.0,
    (ap (λ z. z ∷ w) (sym h.0) ∙ ap (λ z. c ∷ z) h.1.1),
    all_of is_plain c more (moved is_plain true b c (sym h.0) (plain_of b s q)) h.1.2,
    h.1.3,
  ),
)

-- ---- in a quoted word

closing : (w : List ℕ) (us : List (List ℕ)) → QuotedRest (34 ∷ w) us → ClosedRest w us
closing w [] h = h
closing w ([] ∷ us) (rest, e, f) =
    let g : 34 ∷ w ≡ 34 ∷ rest = e in
    let tail : rest ≡ w = cc in
    subst (λ z. Further z us) tail f
closing w ((b ∷ more) ∷ us) (rest, e, f) = by_quote (b == 34) refl
  where
    by_quote : (t : Bool) → (b == 34) ≡ t → ClosedRest w ((b ∷ more) ∷ us)
    by_quote true q =
        let g : 34 ∷ w ≡ 34 ∷ 34 ∷ (doubled more ++ 34 ∷ rest) =
        subst (λ z. 34 ∷ w ≡ z ++ 34 ∷ rest) (doubled_quote b more q) e in
        let tail : w ≡ 34 ∷ (doubled more ++ 34 ∷ rest) = cc in
        (doubled more ++ 34 ∷ rest, tail, quote_is b q, (rest, refl, f))
    by_quote false q =
        let g : 34 ∷ w ≡ b ∷ (doubled more ++ 34 ∷ rest) =
        subst (λ z. 34 ∷ w ≡ z ++ 34 ∷ rest) (doubled_other b more q) e in
        let head : b ≡ 34 = cc in
        absurd (differ (34 == 34) refl (moved (λ z. z == 34) false b 34 head q))

closing_back : (w : List ℕ) (us : List (List ℕ)) → ClosedRest w us → QuotedRest (34 ∷ w) us
closing_back w [] h = h
closing_back w ([] ∷ us) f = (w, refl, f)
closing_back w ((b ∷ more) ∷ us) (u, e, same, (rest, k, f)) =
    (rest, ap (λ z. 34 ∷ z) (e ∙ ap (λ z. 34 ∷ z) k) ∙ sym twice, f)
  where
    twice : doubled (b ∷ more) ++ 34 ∷ rest ≡ 34 ∷ 34 ∷ (doubled more ++ 34 ∷ rest)
    twice = ap (λ z. z ++ 34 ∷ rest) (doubled_quote b more (moved (λ z. z == 34) true 34 b (sym same) refl))

quoted_other : (b : ℕ) (w : List ℕ) (us : List (List ℕ)) → (b == 34) ≡ false → QuotedRest (b ∷ w) us
    → Behind b Keep Quoted w us
quoted_other b w [] q h = h
quoted_other b w ([] ∷ us) q (rest, e, f) =
    let g : b ∷ w ≡ 34 ∷ rest = e in
    let head : b ≡ 34 = cc in
    differ (34 == 34) refl (moved (λ z. z == 34) false b 34 head q)
quoted_other b w ((c ∷ more) ∷ us) q (rest, e, f) = by_quote (c == 34) refl
  where
    by_quote : (t : Bool) → (c == 34) ≡ t → Behind b Keep Quoted w ((c ∷ more) ∷ us)
    by_quote true k =
        let g : b ∷ w ≡ 34 ∷ 34 ∷ (doubled more ++ 34 ∷ rest) =
        subst (λ z. b ∷ w ≡ z ++ 34 ∷ rest) (doubled_quote c more k) e in
        let head : b ≡ 34 = cc in
        absurd (differ (34 == 34) refl (moved (λ z. z == 34) false b 34 head q))
    by_quote false k =
        let g : b ∷ w ≡ c ∷ (doubled more ++ 34 ∷ rest) =
        subst (λ z. b ∷ w ≡ z ++ 34 ∷ rest) (doubled_other c more k) e in
        let head : c ≡ b = cc in
        let tail : w ≡ doubled more ++ 34 ∷ rest = cc in (head, (rest, tail, f))

quoted_back : (b : ℕ) (w : List ℕ) (us : List (List ℕ)) → (b == 34) ≡ false → Behind b Keep Quoted w us
    → QuotedRest (b ∷ w) us
quoted_back b w [] q h = h
quoted_back b w ([] ∷ us) q h = absurd h
quoted_back b w ((c ∷ more) ∷ us) q (same, (rest, e, f)) =
    (rest, ap (λ z. z ∷ w) (sym same) ∙ ap (λ z. c ∷ z) e ∙ sym once, f)
  where
    once : doubled (c ∷ more) ++ 34 ∷ rest ≡ c ∷ (doubled more ++ 34 ∷ rest)
    once = ap (λ z. z ++ 34 ∷ rest) (doubled_other c more (moved (λ z. z == 34) false b c (sym same) q))

-- ---- behind a quote in a quoted word

closed_quote : (w : List ℕ) (us : List (List ℕ)) → ClosedRest (34 ∷ w) us ↔ Behind 34 Keep Quoted w us
closed_quote w [] = (λ h. h, λ h. h)
closed_quote w ([] ∷ us) = (λ h. differ (is_separator 34) h.0 refl, λ h. absurd h)
closed_quote w ((b ∷ more) ∷ us) = (
  λ h.
      let g : 34 ∷ w ≡ 34 ∷ h.0 = h.1 in
      let tail : h.0 ≡ w = cc in
      (h.2, subst (λ z. QuotedRest z (more ∷ us)) tail h.3),
  λ h. (w, refl, h.0, h.1),
)

no_quote : (b : ℕ) (w u : List ℕ) → (b == 34) ≡ false → b ∷ w ≡ 34 ∷ u → ⊥
no_quote b w u q e =
    let head : b ≡ 34 = cc in
    differ (34 == 34) refl (moved (λ z. z == 34) false b 34 head q)

closed_sep : (b : ℕ) (w : List ℕ) (us : List (List ℕ)) → is_separator b ≡ true → (b == 34) ≡ false
    → ClosedRest (b ∷ w) us ↔ Behind b End Between w us
closed_sep b w [] s q = (λ h. h, λ h. h)
closed_sep b w ([] ∷ us) s q = (λ h. gap_less b w us s h.1, λ h. (s, gap_more b w us s h))
closed_sep b w ((c ∷ more) ∷ us) s q = (λ h. no_quote b w h.0 q h.1, λ h. absurd h)

closed_not : (b : ℕ) (w : List ℕ) (us : List (List ℕ)) → is_separator b ≡ false → (b == 34) ≡ false
    → ClosedRest (b ∷ w) us → ⊥
closed_not b w [] s q h = h
closed_not b w ([] ∷ us) s q h = differ (is_separator b) h.0 s
closed_not b w ((c ∷ more) ∷ us) s q h = no_quote b w h.0 q h.1

-- ---- the end of a line

no_words_end : (us : List (List ℕ)) → SpellsLine [] us → us ≡ []
no_words_end [] h = refl
no_words_end (word ∷ us) (c ∷ gap, bytes, rest, e, g, k, n, h) = absurd (cc)
no_words_end (word ∷ us) ([], b ∷ bytes, rest, e, g, k, n, h) = absurd (cc)
no_words_end ([] ∷ us) ([], [], rest, e, g, BareWord k plain, n, h) = absurd (cc)
no_words_end ((c ∷ cs) ∷ us) ([], [], rest, e, g, BareWord k plain, n, h) = absurd (cc)
no_words_end (word ∷ us) ([], [], rest, e, g, QuotedWord k, n, h) = absurd (cc)

bare_end : (us : List (List ℕ)) → BareRest [] us → us ≡ [] ∷ []
bare_end [] h = absurd h
bare_end ([] ∷ us) (rest, e, plain, (n, h)) =
    ap (λ z. [] ∷ z) (no_words_end us (subst (λ z. SpellsLine z us) (sym e) h))
bare_end ((c ∷ more) ∷ us) (rest, e, plain, f) = absurd (cc)

quoted_end : (us : List (List ℕ)) → QuotedRest [] us → ⊥
quoted_end [] h = h
quoted_end ([] ∷ us) (rest, e, f) = cc
quoted_end ((c ∷ more) ∷ us) (rest, e, f) = by_quote (c == 34) refl
  where
    by_quote : (t : Bool) → (c == 34) ≡ t → ⊥
    by_quote true k =
        let g : [] ≡ 34 ∷ 34 ∷ (doubled more ++ 34 ∷ rest) =
        subst (λ z. [] ≡ z ++ 34 ∷ rest) (doubled_quote c more k) e in cc
    by_quote false k =
        let g : [] ≡ c ∷ (doubled more ++ 34 ∷ rest) =
        subst (λ z. [] ≡ z ++ 34 ∷ rest) (doubled_other c more k) e in cc

closed_end : (us : List (List ℕ)) → ClosedRest [] us → us ≡ [] ∷ []
closed_end [] h = absurd h
closed_end ([] ∷ us) (n, h) = ap (λ z. [] ∷ z) (no_words_end us h)
closed_end ((c ∷ more) ∷ us) (u, e, same, h) = absurd (cc)

-- ---- the machine

-- words, the first of which goes on the word that is read
abbrev prefixed : List ℕ → List (List ℕ) → List (List ℕ)
prefixed word [] = []
prefixed word (more ∷ us) = (word ++ more) ∷ us

-- bytes that complete a line of these words behind a state
abbrev Rest : Reading → List ℕ → List (List ℕ) → Type 0
Rest s w v = (us : List (List ℕ)) × (v ≡ s.words ++ prefixed s.word us) × Comes s.place w us

prefixed_none : (us : List (List ℕ)) → prefixed [] us ≡ us
prefixed_none [] = refl
prefixed_none (more ∷ us) = refl

-- a row of the table by the two tests of a byte
abbrev row : Place → Bool → Bool → Option (Place × Act)
row Between true q = Some (Between, Skip)
row Between false true = Some (Quoted, Skip)
row Between false false = Some (Bare, Keep)
row Bare true q = Some (Between, End)
row Bare false true = None
row Bare false false = Some (Bare, Keep)
row Quoted s true = Some (Closed, Skip)
row Quoted s false = Some (Quoted, Keep)
row Closed s true = Some (Quoted, Keep)
row Closed true false = Some (Between, End)
row Closed false false = None

next_row : (p : Place) (b : ℕ) (s q : Bool) → is_separator b ≡ s → (b == 34) ≡ q → next_of p b ≡ row p s q
next_row Between b true q h k = rw h refl
next_row Between b false true h k = rw (h, k) refl
next_row Between b false false h k = rw (h, k) refl
next_row Bare b true q h k = rw h refl
next_row Bare b false true h k = rw (h, k) refl
next_row Bare b false false h k = rw (h, k) refl
next_row Quoted b s true h k = rw k refl
next_row Quoted b s false h k = rw k refl
next_row Closed b s true h k = rw k refl
next_row Closed b true false h k = rw (k, h) refl
next_row Closed b false false h k = rw (k, h) refl

-- what comes with a byte, and what comes behind it
abbrev Law : Place → ℕ → List ℕ → List (List ℕ) → Option (Place × Act) → Type 0
Law p b w us o = Comes p (b ∷ w) us ↔ IsSomeAnd o (λ (n : Place × Act). Behind b n.1 n.0 w us)

-- b is a quote
at_quote : (p n : Place) (a : Act) (b : ℕ) (w : List ℕ) (us : List (List ℕ)) → (b == 34) ≡ true
    → (Comes p (34 ∷ w) us ↔ Behind 34 a n w us) → Comes p (b ∷ w) us ↔ Behind b a n w us
at_quote p n a b w us q h =
    subst (λ z. Comes p (z ∷ w) us ↔ Behind z a n w us) (sym (quote_is b q)) h

law : (p : Place) (b : ℕ) (s q : Bool) → is_separator b ≡ s → (b == 34) ≡ q → (w : List ℕ)
    → (us : List (List ℕ)) → Law p b w us (row p s q)
law Between b true q h k w us = (gap_less b w us h, gap_more b w us h)
law Between b false true h k w us = (
  λ g. quote_first b w us k (begins b w us h g),
  λ g. subst (λ z. SpellsLine (z ∷ w) us) (sym (quote_is b k)) (quote_back w us g),
)
law Between b false false h k w us =
    (λ g. plain_first b w us k (begins b w us h g), plain_back b w us (plain_of b h k))
law Bare b true q h k w us = bare_sep b w us h
law Bare b false true h k w us = (bare_quote b w us h k, λ g. absurd g)
law Bare b false false h k w us = bare_plain b w us h k
law Quoted b s true h k w us = at_quote Quoted Closed Skip b w us k (closing w us, closing_back w us)
law Quoted b s false h k w us = (quoted_other b w us k, quoted_back b w us k)
law Closed b s true h k w us = at_quote Closed Quoted Keep b w us k (closed_quote w us)
law Closed b true false h k w us = closed_sep b w us h k
law Closed b false false h k w us = (closed_not b w us h k, λ g. absurd g)

-- a place at which a word is read
abbrev InWord : Place → Type 0
InWord p = (w : List ℕ) → Comes p w [] → ⊥

-- a kept byte stands in a word
abbrev Keeps : Option (Place × Act) → Type 0
Keeps None = Unit {0}
Keeps (Some (p, Skip)) = Unit {0}
Keeps (Some (p, Keep)) = InWord p
Keeps (Some (p, End)) = p ≡ Between

keeps : (p : Place) (s q : Bool) → Keeps (row p s q)
keeps Between true q = tt
keeps Between false true = tt
keeps Between false false = λ w h. h
keeps Bare true q = refl
keeps Bare false true = tt
keeps Bare false false = λ w h. h
keeps Quoted s true = tt
keeps Quoted s false = λ w h. h
keeps Closed s true = λ w h. h
keeps Closed true false = refl
keeps Closed false false = tt

-- words that what comes behind a place makes
abbrev WordsBehind : Place → List ℕ → List (List ℕ) → List ℕ → List (List ℕ) → Type 0
WordsBehind p word words w v = (us : List (List ℕ)) × (v ≡ words ++ prefixed word us) × Comes p w us

-- and those behind a row
abbrev Stepped : ℕ → List ℕ → List (List ℕ) → List ℕ → List (List ℕ) → Option (Place × Act) → Type 0
Stepped b word words w v o =
    IsSomeAnd (option_map (λ (n : Place × Act). with_byte b n.1 n.0 word words) o)
    (λ (t : Reading). Rest t w v)

kept_once : (word more : List ℕ) (b : ℕ) (words us : List (List ℕ))
    → words ++ prefixed (word ++ b ∷ []) (more ∷ us) ≡ words ++ prefixed word ((b ∷ more) ∷ us)
kept_once word more b words us = ap (λ z. words ++ z ∷ us) (append_assoc word (b ∷ []) more)

ended_once : (word : List ℕ) (words us : List (List ℕ))
    → (words ++ word ∷ []) ++ prefixed [] us ≡ words ++ prefixed word ([] ∷ us)
ended_once word words us =
    ap (λ z. (words ++ word ∷ []) ++ z) (prefixed_none us) ∙ append_assoc words (word ∷ []) us
    ∙ ap (λ z. words ++ z ∷ us) (sym (append-nil word))

-- a row leads from what comes with a byte to what comes behind it
through : (p : Place) (b : ℕ) (w : List ℕ) (word : List ℕ) (words v : List (List ℕ))
    (o : Option (Place × Act)) → Keeps o → ((us : List (List ℕ)) → Law p b w us o)
    → WordsBehind p word words (b ∷ w) v ↔ Stepped b word words w v o
through p b w word words v None k fits = (λ h. (fits h.0).0 h.2, λ h. absurd h)
through p b w word words v (Some (n, Skip)) k fits =
    (λ h. (h.0, h.1, (fits h.0).0 h.2), λ h. (h.0, h.1, (fits h.0).1 h.2))
through p b w word words v (Some (n, Keep)) k fits =
    (λ h. forth h.0 h.1 ((fits h.0).0 h.2), λ h. back h.0 h.1 h.2)
  where
    forth : (us : List (List ℕ)) → v ≡ words ++ prefixed word us → Behind b Keep n w us
        → WordsBehind n (word ++ b ∷ []) words w v
    forth [] e h = absurd h
    forth ([] ∷ us) e h = absurd h
    forth ((c ∷ more) ∷ us) e h = (
      more ∷ us,
      e ∙ ap (λ z. words ++ (word ++ z ∷ more) ∷ us) h.0 ∙ sym (kept_once word more b words us),
      h.1,
    )

    back : (us : List (List ℕ)) → v ≡ words ++ prefixed (word ++ b ∷ []) us → Comes n w us
        → WordsBehind p word words (b ∷ w) v
    back [] e h = absurd (k w h)
    back (more ∷ us) e h =
        ((b ∷ more) ∷ us, e ∙ kept_once word more b words us, (fits ((b ∷ more) ∷ us)).1 (refl, h))
through p b w word words v (Some (n, End)) k fits =
    (λ h. forth h.0 h.1 ((fits h.0).0 h.2), λ h. back h.0 h.1 h.2)
  where
    forth : (us : List (List ℕ)) → v ≡ words ++ prefixed word us → Behind b End n w us
        → WordsBehind n [] (words ++ word ∷ []) w v
    forth [] e h = absurd h
    forth ([] ∷ us) e h = (us, e ∙ sym (ended_once word words us), h)
    forth ((c ∷ more) ∷ us) e h = absurd h

    back : (us : List (List ℕ)) → v ≡ (words ++ word ∷ []) ++ prefixed [] us → Comes n w us
        → WordsBehind p word words (b ∷ w) v
    back us e h = ([] ∷ us, e ∙ ended_once word words us, (fits ([] ∷ us)).1 h)

step : (s : Reading) (b : ℕ) (w : List ℕ) (v : List (List ℕ))
    → Rest s (b ∷ w) v ↔ IsSomeAnd (word_reader.step s b) (λ (t : Reading). Rest t w v)
step s b w v =
    let sep = is_separator b in
    let quote = b == 34 in
    subst (λ o. Rest s (b ∷ w) v ↔ Stepped b s.word s.words w v o)
    (sym (next_row s.place b sep quote refl refl))
    (through s.place b w s.word s.words v (row s.place sep quote) (keeps s.place sep quote)
    (λ us. law s.place b sep quote refl refl w us))

-- a line may end where nothing more comes
at_end : (p : Place) (word : List ℕ) (words v : List (List ℕ))
    → WordsBehind p word words [] v ↔ (ended p word words ≡ Some v)
at_end Between word words v = (
  λ h. ap Some (sym (h.1 ∙ ap (λ z. words ++ prefixed word z) (no_words_end h.0 h.2) ∙ append-nil words)),
  λ e. let same : v ≡ words = cc in ([], same ∙ sym (append-nil words), refl),
)
at_end Bare word words v = (
  λ h. ap Some (sym (h.1 ∙ ap (λ z. words ++ prefixed word z) (bare_end h.0 h.2)
      ∙ ap (λ z. words ++ z ∷ []) (append-nil word))),
  λ e.
      let same : v ≡ words ++ word ∷ [] = cc in
      ([] ∷ [], same ∙ ap (λ z. words ++ z ∷ []) (sym (append-nil word)), ([], refl, refl, (refl, refl))),
)
at_end Quoted word words v = (λ h. absurd (quoted_end h.0 h.2), λ e. absurd (cc))
at_end Closed word words v = (
  λ h. ap Some (sym (h.1 ∙ ap (λ z. words ++ prefixed word z) (closed_end h.0 h.2)
      ∙ ap (λ z. words ++ z ∷ []) (append-nil word))),
  λ e.
      let same : v ≡ words ++ word ∷ [] = cc in
      ([] ∷ [], same ∙ ap (λ z. words ++ z ∷ []) (sym (append-nil word)), (refl, refl)),
)

-- every place can be left: in a quoted word by a quote
live : (p : Place) → (w : List ℕ) × (us : List (List ℕ)) × Comes p w us
live Between = ([], [], refl)
live Bare = ([], [] ∷ [], ([], refl, refl, (refl, refl)))
live Quoted = (34 ∷ [], [] ∷ [], ([], refl, (refl, refl)))
live Closed = ([], [] ∷ [], (refl, refl))

reads : Reads word_reader Rest
reads = record {
  step = step;
  ends = λ s v. at_end s.place s.word s.words v;
  live = λ s. let rest = live s.place in (rest.0, s.words ++ prefixed s.word rest.1, (rest.1, refl, rest.2));
}

-- before the first byte what comes is a line
from_start : (line : List ℕ) (words : List (List ℕ)) → Rest no_words line words ↔ SpellsLine line words
from_start line words = (
  λ h. subst (λ z. SpellsLine line z) (sym (h.1 ∙ prefixed_none h.0)) h.2,
  λ h. (words, sym (prefixed_none words), h),
)

-- so a line has the words that it spells
pub words_exactly : (line : List ℕ) (words : List (List ℕ))
    → (words_of line ≡ Some words) ↔ SpellsLine line words
unfolding words_of
words_exactly line words =
    value_spelt SpellsLine line (run word_reader line no_words)
    (same_reading (Rest no_words) SpellsLine line (run word_reader line no_words) from_start
    (is_reading word_reader Rest reads line no_words))
    words
