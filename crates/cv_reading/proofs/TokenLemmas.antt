-- The tokens of a text, one after the other.
use Rattle.std.proofs.Common.{◌≡◌, ℕ, suc, ◌+◌, Bool, true, false, cond, not, List, [], ◌∷◌, length, take}
use Rattle.std.proofs.Common.{drop, filter, flat_map, refl, ap, ◌∙◌, arith}
use Rattle.std.specs.List.{prefix_len}
use Rattle.cv_reading.specs.Tokens.{ByteKind, White, Single, Word, Token, is_word, is_white, begins_word}
use Rattle.cv_reading.specs.Tokens.{joined, with_byte, cut, Stands, AllStand}

one_up : (n : ℕ) → suc n ≡ n + 1
one_up n = omega arith

-- a byte between tokens
pub cut_white : (kind : ℕ → ByteKind) (at b : ℕ) (bs : List ℕ) → kind b ≡ White
    → cut kind at (b ∷ bs) ≡ cut kind (at + 1) bs
cut_white kind at b bs e =
    ap (λ k. with_byte at b k (begins_word kind bs) (cut kind (suc at) bs)) e
    ∙ ap (λ n. cut kind n bs) (one_up at)

white_step : (kind : ℕ → ByteKind) (at b : ℕ) (bs : List ℕ) (k : ByteKind) → kind b ≡ k
    → cut kind (suc at) bs ≡ cut kind (suc at + prefix_len (λ c. is_white (kind c)) bs)
    (drop (prefix_len (λ c. is_white (kind c)) bs) bs)
    → cut kind at (b ∷ bs) ≡ cut kind (at + cond (is_white k) (1 + prefix_len (λ c. is_white (kind c)) bs) 0)
    (drop (cond (is_white k) (1 + prefix_len (λ c. is_white (kind c)) bs) 0) (b ∷ bs))
white_step kind at b bs White e behind =
    let n = prefix_len (λ c. is_white (kind c)) bs in
    let one : suc n ≡ 1 + n = omega arith in
    let further : suc at + n ≡ at + (1 + n) = omega arith in
    ap (λ k. with_byte at b k (begins_word kind bs) (cut kind (suc at) bs)) e ∙ behind
    ∙ ap (λ p. cut kind p (drop n bs)) further
    ∙ ap (λ p. cut kind (at + (1 + n)) (drop p (b ∷ bs))) one
white_step kind at b bs Single e behind = ap (λ n. cut kind n (b ∷ bs)) (omega arith)
white_step kind at b bs Word e behind = ap (λ n. cut kind n (b ∷ bs)) (omega arith)

-- all the bytes between two tokens; for readers that go over them in one loop
pub cut_whites : (kind : ℕ → ByteKind) (at : ℕ) (bs : List ℕ)
    → cut kind at bs ≡ cut kind (at + prefix_len (λ c. is_white (kind c)) bs)
    (drop (prefix_len (λ c. is_white (kind c)) bs) bs)
cut_whites kind at [] = refl
cut_whites kind at (b ∷ bs) = white_step kind at b bs (kind b) refl (cut_whites kind (suc at) bs)

-- a byte that is a token
pub cut_single : (kind : ℕ → ByteKind) (at b : ℕ) (bs : List ℕ) → kind b ≡ Single
    → cut kind at (b ∷ bs) ≡ (record { at = at; bytes = b ∷ [] }) ∷ cut kind (at + 1) bs
cut_single kind at b bs e =
    ap (λ k. with_byte at b k (begins_word kind bs) (cut kind (suc at) bs)) e
    ∙ ap (λ n. (record { at = at; bytes = b ∷ [] }) ∷ cut kind n bs) (one_up at)

-- the bytes of a word behind its first one, n of them
abbrev word_of : (ℕ → ByteKind) → ℕ → ℕ → List ℕ → ℕ → List Token
word_of kind at b bs n = (record { at = at; bytes = b ∷ take n bs }) ∷ cut kind (at + 1 + n) (drop n bs)

word_step : (kind : ℕ → ByteKind) (at b c : ℕ) (bs : List ℕ) (k : ByteKind)
    → (k ≡ Word → cut kind (suc at) (c ∷ bs)
    ≡ word_of kind (suc at) c bs (prefix_len (λ x. is_word (kind x)) bs))
    → joined at b (is_word k) (cut kind (suc at) (c ∷ bs))
    ≡ word_of kind at b (c ∷ bs) (cond (is_word k) (1 + prefix_len (λ x. is_word (kind x)) bs) 0)
word_step kind at b c bs White behind =
    ap (λ n. (record { at = at; bytes = b ∷ [] }) ∷ cut kind n (c ∷ bs)) (omega arith)
word_step kind at b c bs Single behind =
    ap (λ n. (record { at = at; bytes = b ∷ [] }) ∷ cut kind n (c ∷ bs)) (omega arith)
word_step kind at b c bs Word behind =
    let n = prefix_len (λ x. is_word (kind x)) bs in
    let one : suc n ≡ 1 + n = omega arith in
    let further : suc at + 1 + n ≡ at + 1 + suc n = omega arith in
    ap (joined at b true) (behind refl)
    ∙ ap (λ p. (record { at = at; bytes = b ∷ c ∷ take n bs }) ∷ cut kind p (drop n bs)) further
    ∙ ap (word_of kind at b (c ∷ bs)) one

-- a word: the bytes of words from here on are one token
pub cut_word : (kind : ℕ → ByteKind) (bs : List ℕ) (at b : ℕ) → kind b ≡ Word
    → cut kind at (b ∷ bs) ≡ (record
    { at = at; bytes = b ∷ take (prefix_len (λ c. is_word (kind c)) bs) bs }) ∷ cut kind
    (at + 1 + prefix_len (λ c. is_word (kind c)) bs) (drop (prefix_len (λ c. is_word (kind c)) bs) bs)
cut_word kind [] at b e = ap (λ k. with_byte at b k false []) e
cut_word kind (c ∷ bs) at b e =
    ap (λ k. with_byte at b k (is_word (kind c)) (cut kind (suc at) (c ∷ bs))) e
    ∙ word_step kind at b c bs (kind c) (λ f. cut_word kind bs (suc at) c f)

-- ---- the bytes of the tokens are those of the text that aren't white

joined_bytes : (at b : ℕ) (follows : Bool) (ts : List Token)
    → flat_map (λ (t : Token). t.bytes) (joined at b follows ts) ≡ b ∷ flat_map (λ (t : Token). t.bytes) ts
joined_bytes at b true [] = refl
joined_bytes at b true (t ∷ ts) = refl
joined_bytes at b false ts = refl

byte_step : (at b : ℕ) (k : ByteKind) (follows : Bool) (ts : List Token) (bs : List ℕ)
    → flat_map (λ (t : Token). t.bytes) ts ≡ bs
    → flat_map (λ (t : Token). t.bytes) (with_byte at b k follows ts)
    ≡ cond (not (is_white k)) (b ∷ bs) bs
byte_step at b White follows ts bs e = e
byte_step at b Single follows ts bs e = ap (λ x. b ∷ x) e
byte_step at b Word follows ts bs e = joined_bytes at b follows ts ∙ ap (λ x. b ∷ x) e

-- no byte but the white ones is lost, and none is added
pub cut_bytes : (kind : ℕ → ByteKind) (at : ℕ) (bs : List ℕ)
    → flat_map (λ (t : Token). t.bytes) (cut kind at bs) ≡ filter (λ b. not (is_white (kind b))) bs
cut_bytes kind at [] = refl
cut_bytes kind at (b ∷ bs) =
    byte_step at b (kind b) (begins_word kind bs) (cut kind (suc at) bs) _ (cut_bytes kind (suc at) bs)

-- behind one byte more
later : (at b : ℕ) (bs : List ℕ) (ts : List Token) → AllStand (suc at) bs ts → AllStand at (b ∷ bs) ts
later at b bs [] h = tt
later at b bs (t ∷ ts) h = (
  record { before = suc h.0.before; place = h.0.place ∙ omega arith; bytes = h.0.bytes },
  later at b bs ts h.1,
)

alone : (at b : ℕ) (bs : List ℕ) → Stands at (b ∷ bs) (record { at = at; bytes = b ∷ [] })
alone at b bs = record { before = 0; place = omega arith; bytes = refl }

-- the first token begins the text
abbrev BeginsText : List ℕ → List Token → Type 0
BeginsText bs [] = Unit {0}
BeginsText bs (t ∷ ts) = take (length t.bytes) bs ≡ t.bytes

begins_step : (at b : ℕ) (bs : List ℕ) (k : ByteKind) (follows : Bool) (ts : List Token) → is_word k ≡ true
    → (follows ≡ true → BeginsText bs ts) → BeginsText (b ∷ bs) (with_byte at b k follows ts)
begins_step at b bs White follows ts e h = absurd (cc)
begins_step at b bs Single follows ts e h = absurd (cc)
begins_step at b bs Word false ts e h = refl
begins_step at b bs Word true [] e h = refl
begins_step at b bs Word true (t ∷ ts) e h = ap (λ x. b ∷ x) (h refl)

begins_text : (kind : ℕ → ByteKind) (at : ℕ) (bs : List ℕ) → begins_word kind bs ≡ true
    → BeginsText bs (cut kind at bs)
begins_text kind at [] e = tt
begins_text kind at (b ∷ bs) e =
    begins_step at b bs (kind b) (begins_word kind bs) (cut kind (suc at) bs) e (begins_text kind (suc at) bs)

stands_step : (at b : ℕ) (bs : List ℕ) (k : ByteKind) (follows : Bool) (ts : List Token)
    → AllStand (suc at) bs ts → (follows ≡ true → BeginsText bs ts)
    → AllStand at (b ∷ bs) (with_byte at b k follows ts)
stands_step at b bs White follows ts h first = later at b bs ts h
stands_step at b bs Single follows ts h first = (alone at b bs, later at b bs ts h)
stands_step at b bs Word false ts h first = (alone at b bs, later at b bs ts h)
stands_step at b bs Word true [] h first = (alone at b bs, tt)
stands_step at b bs Word true (t ∷ ts) h first =
    (record { before = 0; place = omega arith; bytes = ap (λ x. b ∷ x) (first refl) }, later at b bs ts h.1)

-- each token stands at its offset
pub cut_stands : (kind : ℕ → ByteKind) (at : ℕ) (bs : List ℕ) → AllStand at bs (cut kind at bs)
cut_stands kind at [] = tt
cut_stands kind at (b ∷ bs) =
    stands_step at b bs (kind b) (begins_word kind bs) (cut kind (suc at) bs) (cut_stands kind (suc at) bs)
    (begins_text kind (suc at) bs)
