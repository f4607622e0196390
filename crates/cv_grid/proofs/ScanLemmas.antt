-- The way through the bytes of a text: white space, and one token after the other.
use Rattle.std.proofs.Common.{◌≡◌, ℕ, suc, ◌+◌, ◌<◌, Bool, true, false, if◌then◌else◌, List, ◌∷◌, length}
use Rattle.std.proofs.Common.{take, drop, get_or, refl, sym, ap, ◌∙◌, subst, arith}
use Rattle.std.proofs.Math.Seq.{drop-cons}
use Rattle.std.proofs.lemmas.List.{drop-drop}
use Rattle.std.specs.List.{prefix_len}
use Rattle.cv_reading.specs.Tokens.{ByteKind, White, Word, Token, is_word, cut}
use Rattle.cv_reading.proofs.TokenLemmas.{cut_white, cut_word}
use Rattle.cv_grid.specs.Tokens.{byte_kind}
use Rattle.cv_reading.specs.Space.{is_space}
use Rattle.cv_grid.specs.Scanning.{front_len}

-- the kind of a byte by the test on it
abbrev pub kind_by : Bool → ByteKind
kind_by t = if t then White else Word

-- the byte at an offset, and the others behind it
pub byte_at : (text : List ℕ) (at : ℕ) → at < length text
    → drop at text ≡ get_or text at 0 ∷ drop (at + 1) text
byte_at text at h =
    let one : suc at ≡ at + 1 = omega arith in
    drop-cons text at 0 h ∙ ap (λ n. get_or text at 0 ∷ drop n text) one

-- white space at the front
space_cut : (at b : ℕ) (bs : List ℕ) → is_space b ≡ true
    → cut byte_kind at (b ∷ bs) ≡ cut byte_kind (at + 1) bs
space_cut at b bs e = cut_white byte_kind at b bs (ap kind_by e)

-- a token at the front
token_cut : (at b : ℕ) (bs : List ℕ) → is_space b ≡ false
    → cut byte_kind at (b ∷ bs)
    ≡ (record { at = at; bytes = take (front_len (b ∷ bs)) (b ∷ bs) }) ∷ cut byte_kind
    (at + front_len (b ∷ bs)) (drop (front_len (b ∷ bs)) (b ∷ bs))
token_cut at b bs e =
    let kind : byte_kind b ≡ Word = ap kind_by e in
    let n = prefix_len (λ c. is_word (byte_kind c)) bs in
    let one : prefix_len (λ c. is_word (byte_kind c)) (b ∷ bs) ≡ suc n = rw kind omega arith in
    let place : at + 1 + n ≡ at + suc n = omega arith in
    cut_word byte_kind bs at b kind
    ∙ ap (λ p. (record { at = at; bytes = b ∷ take n bs }) ∷ cut byte_kind p (drop n bs)) place
    ∙ ap (λ m. (record { at = at; bytes = take m (b ∷ bs) }) ∷ cut byte_kind (at + m) (drop m (b ∷ bs)))
    (sym one)

-- a token has a byte, and white space none
pub len_by : (b : ℕ) (bs : List ℕ) (t : Bool) → is_space b ≡ t
    → front_len (b ∷ bs) ≡ (if t then 0 else suc (front_len bs))
len_by b bs true e = let kind : byte_kind b ≡ White = ap kind_by e in rw kind refl
len_by b bs false e = let kind : byte_kind b ≡ Word = ap kind_by e in rw kind omega arith

-- a token at the front has a byte
pub some_len : (b : ℕ) (bs : List ℕ) → is_space b ≡ false → 0 < front_len (b ∷ bs)
some_len b bs e = omega (arith, len_by b bs false e)

-- where no token is at the front, white space is
none_by : (b : ℕ) (bs : List ℕ) (t : Bool) → is_space b ≡ t → front_len (b ∷ bs) ≡ 0 → is_space b ≡ true
none_by b bs true e h = e
none_by b bs false e h = absurd (omega (arith, len_by b bs false e))

-- and where one is, none is
some_by : (b : ℕ) (bs : List ℕ) (t : Bool) → is_space b ≡ t → 0 < front_len (b ∷ bs) → is_space b ≡ false
some_by b bs false e h = e
some_by b bs true e h = absurd (omega (arith, len_by b bs true e))

-- ---- at an offset of the text

-- a token at an offset has a byte
pub some_at : (text : List ℕ) (at : ℕ) → at < length text → is_space (get_or text at 0) ≡ false
    → 0 < front_len (drop at text)
some_at text at h e = rw (byte_at text at h) (some_len (get_or text at 0) (drop (at + 1) text) e)

-- where no token is at an offset, white space is
pub space_from_len : (text : List ℕ) (at : ℕ) → at < length text → front_len (drop at text) ≡ 0
    → is_space (get_or text at 0) ≡ true
space_from_len text at h e =
    none_by (get_or text at 0) (drop (at + 1) text) (is_space (get_or text at 0)) refl
    (ap front_len (sym (byte_at text at h)) ∙ e)

-- and where one is, none is
pub token_from_len : (text : List ℕ) (at : ℕ) → at < length text → 0 < front_len (drop at text)
    → is_space (get_or text at 0) ≡ false
token_from_len text at h e =
    some_by (get_or text at 0) (drop (at + 1) text) (is_space (get_or text at 0)) refl
    (subst (λ (bs : List ℕ). 0 < front_len bs) (byte_at text at h) e)

-- the tokens from an offset on
abbrev pub tokens_at : List ℕ → ℕ → List Token
tokens_at text at = cut byte_kind at (drop at text)

-- white space at an offset is no part of the tokens from there on
pub white_on : (text : List ℕ) (at : ℕ) → at < length text → is_space (get_or text at 0) ≡ true
    → tokens_at text at ≡ tokens_at text (at + 1)
white_on text at h e = ap (cut byte_kind at) (byte_at text at h)
    ∙ space_cut at (get_or text at 0) (drop (at + 1) text) e

-- the token at an offset
abbrev pub token_at : List ℕ → ℕ → ℕ → Token
token_at text at n = record { at = at; bytes = take n (drop at text) }

-- a token at an offset is the first of those from there on
pub token_on : (text : List ℕ) (at : ℕ) → at < length text → is_space (get_or text at 0) ≡ false
    → tokens_at text at ≡ token_at text at (front_len (drop at text)) ∷ tokens_at text
    (at + front_len (drop at text))
token_on text at h e =
    let n = front_len (drop at text) in
    let P : List ℕ → Type 0 =
    λ bs. cut byte_kind at bs
    ≡ (record { at = at; bytes = take (front_len bs) bs }) ∷ cut byte_kind (at + front_len bs)
    (drop (front_len bs) bs) in
    subst P (sym (byte_at text at h)) (token_cut at (get_or text at 0) (drop (at + 1) text) e)
    ∙ ap (λ bs. token_at text at n ∷ cut byte_kind (at + n) bs) (drop-drop n at text
    ∙ ap (λ m. drop m text) (omega arith))
