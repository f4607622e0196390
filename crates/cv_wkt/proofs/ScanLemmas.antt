-- The way through the bytes of a text: white space, and one token after the other.
use Rattle.std.proofs.Common.{◌≡◌, ℕ, suc, ◌+◌, ◌<◌, ◌≤◌, Bool, List, [], ◌∷◌, map, length, take}
use Rattle.std.proofs.Common.{drop, Option, Some, None, Result, Ok, Err, refl, sym, ap, subst, ◌∙◌, arith}
use Rattle.std.proofs.Common.{length-drop}
use Rattle.std.proofs.lemmas.List.{drop-drop}
use Rattle.std.proofs.lemmas.List.Sums.{prefix_len-le-length}
use Rattle.std.specs.List.{prefix_len}
use Rattle.cv_model.specs.Geometries.{GeometryLists}
use Rattle.cv_model.specs.declared.wkt_error.WktError.{WktError}
use Rattle.cv_reading.specs.Tokens.{ByteKind, White, Single, Word, Token, is_word, cut}
use Rattle.cv_reading.specs.Watches.{Stop, StopAt, stop_one_further, watched, watched_step}
use Rattle.cv_reading.proofs.TokenLemmas.{cut_white, cut_single, cut_word}
use Rattle.cv_wkt.specs.declared.kind.Kind.{Kind}
use Rattle.cv_wkt.specs.declared.place.Cause.{Cause}
use Rattle.cv_wkt.specs.Kind.{byte_kind, kind_of}
use Rattle.cv_wkt.specs.Reader.{State, start, wkt_reader}
use Rattle.cv_wkt.specs.Refusals.{wkt_watch, refusal, located, answer, taken_by, taken}
use Rattle.cv_wkt.specs.Text.{len_by, front_len}
use Rattle.cv_wkt.specs.Short.{answer_from}

-- ---- the tokens of a rest

white_cut : (at b : ℕ) (bs : List ℕ) (k : ByteKind) → byte_kind b ≡ k → len_by k (b ∷ bs) ≡ 0
    → cut byte_kind at (b ∷ bs) ≡ cut byte_kind (at + 1) bs
white_cut at b bs White e h = cut_white byte_kind at b bs e
white_cut at b bs Single e h = absurd (cc)
white_cut at b bs Word e h =
    let one : prefix_len (λ c. is_word (byte_kind c)) (b ∷ bs)
    ≡ 1 + prefix_len (λ c. is_word (byte_kind c)) bs = rw e refl in
    let no : ⊥ = omega (arith, one, h) in
    absurd no

token_cut : (at b : ℕ) (bs : List ℕ) (k : ByteKind) → byte_kind b ≡ k → 0 < len_by k (b ∷ bs)
    → cut byte_kind at (b ∷ bs)
    ≡ (record { at = at; bytes = take (len_by k (b ∷ bs)) (b ∷ bs) }) ∷ cut byte_kind
    (at + len_by k (b ∷ bs)) (drop (len_by k (b ∷ bs)) (b ∷ bs))
token_cut at b bs White e h = let no : ⊥ = omega (arith, h) in absurd no
token_cut at b bs Single e h = cut_single byte_kind at b bs e
token_cut at b bs Word e h =
    let n = prefix_len (λ c. is_word (byte_kind c)) bs in
    let one : prefix_len (λ c. is_word (byte_kind c)) (b ∷ bs) ≡ suc n = rw e omega arith in
    let place : at + 1 + n ≡ at + suc n = omega arith in
    cut_word byte_kind bs at b e
    ∙ ap (λ p. (record { at = at; bytes = b ∷ take n bs }) ∷ cut byte_kind p (drop n bs)) place
    ∙ ap (λ m. (record { at = at; bytes = take m (b ∷ bs) }) ∷ cut byte_kind (at + m) (drop m (b ∷ bs)))
    (sym one)

-- white space at the front
front_white : (at : ℕ) (bs : List ℕ) → 0 < length bs → front_len bs ≡ 0
    → cut byte_kind at bs ≡ cut byte_kind (at + 1) (drop 1 bs)
front_white at [] h e = let no : ⊥ = omega (arith, h) in absurd no
front_white at (b ∷ bs) h e = white_cut at b bs (byte_kind b) refl e

-- a token at the front
front_token : (at : ℕ) (bs : List ℕ) → 0 < front_len bs
    → cut byte_kind at bs ≡ (record { at = at; bytes = take (front_len bs) bs }) ∷ cut byte_kind
    (at + front_len bs) (drop (front_len bs) bs)
front_token at [] h = let no : ⊥ = omega (arith, h) in absurd no
front_token at (b ∷ bs) h = token_cut at b bs (byte_kind b) refl h

-- a front isn't longer than the text; under a name that code can cite
pub word_within : (p : ℕ → Bool) (bs : List ℕ) → prefix_len p bs ≤ length bs
word_within = prefix_len-le-length

-- ---- the answer behind a token

further : (end : ℕ) (t : Token) (ts : List Token) (r : Result GeometryLists (Stop Cause))
    → located end (t ∷ ts) (stop_one_further r) ≡ located end ts r
further end t ts (Ok g) = refl
further end t ts (Err (StopAt i c)) = refl

by_step : (end : ℕ) (t : Token) (ts : List Token) (rest : State → Result GeometryLists (Stop Cause))
    (c : Cause) (l : Option Cause) (o : Option State) (u : State)
    → taken_by c l o t.at ≡ Ok u → located end (t ∷ ts) (watched_step rest c l o) ≡ located end ts (rest u)
by_step end t ts rest c l None u e = absurd (cc)
by_step end t ts rest c (Some k) (Some s) u e = absurd (cc)
by_step end t ts rest c None (Some s) u e =
    let same : s ≡ u = cc in
    further end t ts (rest s) ∙ ap (λ z. located end ts (rest z)) same

by_refusal : (end : ℕ) (t : Token) (ts : List Token) (rest : State → Result GeometryLists (Stop Cause))
    (c : Cause) (l : Option Cause) (o : Option State) (f : WktError)
    → taken_by c l o t.at ≡ Err f → located end (t ∷ ts) (watched_step rest c l o) ≡ Err f
by_refusal end t ts rest c l None f e = let same : refusal c t.at ≡ f = cc in ap Err same
by_refusal end t ts rest c (Some k) (Some s) f e = let same : refusal k t.at ≡ f = cc in ap Err same
by_refusal end t ts rest c None (Some s) f e = absurd (cc)

answer_step : (end : ℕ) (t : Token) (ts : List Token) (s u : State) → taken s (kind_of t.bytes) t.at ≡ Ok u
    → answer end (t ∷ ts) s ≡ answer end ts u
unfolding taken
answer_step end t ts s u e =
    by_step end t ts (watched wkt_reader wkt_watch (map (λ (t : Token). t.bytes) ts))
    (wkt_watch.cause s t.bytes) (wkt_watch.limit s t.bytes) (wkt_reader.step s t.bytes) u e

answer_refusal : (end : ℕ) (t : Token) (ts : List Token) (s : State) (f : WktError)
    → taken s (kind_of t.bytes) t.at ≡ Err f → answer end (t ∷ ts) s ≡ Err f
unfolding taken
answer_refusal end t ts s f e =
    by_refusal end t ts (watched wkt_reader wkt_watch (map (λ (t : Token). t.bytes) ts))
    (wkt_watch.cause s t.bytes) (wkt_watch.limit s t.bytes) (wkt_reader.step s t.bytes) f e

-- ---- the loop

-- white space changes nothing
pub from_white : (text : List ℕ) (at : ℕ) (s : State) → at < length text → front_len (drop at text) ≡ 0
    → answer_from text at s ≡ answer_from text (at + 1) s
from_white text at s h e =
    let some : 0 < length (drop at text) = omega (arith, length-drop at text) in
    ap (λ ts. answer (length text) ts s) (front_white at (drop at text) some e)
    ∙ ap (λ bs. answer (length text) (cut byte_kind (at + 1) bs) s)
    (drop-drop 1 at text ∙ ap (λ n. drop n text) (omega arith))

-- a token leads to the state behind it
pub from_token : (text : List ℕ) (at n : ℕ) (s u : State) → front_len (drop at text) ≡ n → 0 < n
    → taken s (kind_of (take n (drop at text))) at ≡ Ok u
    → answer_from text at s ≡ answer_from text (at + n) u
from_token text at n s u e h q =
    let cuts = subst (λ m. 0 < m
    → cut byte_kind at (drop at text)
    ≡ (record { at = at; bytes = take m (drop at text) }) ∷ cut byte_kind (at + m)
    (drop m (drop at text))) e (front_token at (drop at text)) in
    ap (λ ts. answer (length text) ts s) (cuts h)
    ∙ answer_step (length text) (record { at = at; bytes = take n (drop at text) })
    (cut byte_kind (at + n) (drop n (drop at text))) s u q
    ∙ ap (λ bs. answer (length text) (cut byte_kind (at + n) bs) u)
    (drop-drop n at text ∙ ap (λ m. drop m text) (omega arith))

-- or is refused
pub from_refusal : (text : List ℕ) (at n : ℕ) (s : State) (f : WktError) → front_len (drop at text) ≡ n
    → 0 < n → taken s (kind_of (take n (drop at text))) at ≡ Err f → answer_from text at s ≡ Err f
from_refusal text at n s f e h q =
    let cuts = subst (λ m. 0 < m
    → cut byte_kind at (drop at text)
    ≡ (record { at = at; bytes = take m (drop at text) }) ∷ cut byte_kind (at + m)
    (drop m (drop at text))) e (front_token at (drop at text)) in
    ap (λ ts. answer (length text) ts s) (cuts h)
    ∙ answer_refusal (length text) (record { at = at; bytes = take n (drop at text) })
    (cut byte_kind (at + n) (drop n (drop at text))) s f q

-- the loop at an offset
pub record Along (text : List ℕ) (at : ℕ) (s : State) : Type 0 where
  pub within : at ≤ length text
  pub same : answer_from text 0 start ≡ answer_from text at s

-- white space at the offset
pub white_more : (text rest : List ℕ) (at n : ℕ) (s : State) → Along text at s → at < length text
    → rest ≡ drop at text → n ≡ front_len rest → n ≡ 0 → Along text (at + 1) s
white_more text rest at n s along h e len none = record {
  within = omega arith;
  same = along.same ∙ from_white text at s h (ap front_len (sym e) ∙ sym len ∙ none);
}

-- a token at the offset: its bytes are `front`, and its kind is k
pub record IsFront (text rest front : List ℕ) (at n : ℕ) (k : Kind) : Type 0 where
  pub rest_is : rest ≡ drop at text
  pub len : n ≡ front_len rest
  pub some : 0 < n
  pub fits : n ≤ length rest
  pub front_is : front ≡ take n rest
  pub kind : k ≡ kind_of front

kind_is : (text rest front : List ℕ) (at n : ℕ) (k : Kind) → IsFront text rest front at n k
    → k ≡ kind_of (take n (drop at text))
kind_is text rest front at n k h = h.kind ∙ ap kind_of (h.front_is ∙ ap (take n) h.rest_is)

len_is : (text rest front : List ℕ) (at n : ℕ) (k : Kind) → IsFront text rest front at n k
    → front_len (drop at text) ≡ n
len_is text rest front at n k h = ap front_len (sym h.rest_is) ∙ sym h.len

-- a token is taken
pub token_more : (text rest front : List ℕ) (at n : ℕ) (k : Kind) (s u : State) → Along text at s
    → IsFront text rest front at n k → taken s k at ≡ Ok u → Along text (at + n) u
token_more text rest front at n k s u along h e =
    let fits : n ≤ length (drop at text) = subst (λ z. n ≤ length z) h.rest_is h.fits in
    let w = along.within in
    record {
      within = omega (arith, length-drop at text);
      same = along.same ∙ from_token text at n s u (len_is text rest front at n k h) h.some
          (ap (λ z. taken s z at) (sym (kind_is text rest front at n k h)) ∙ e);
    }

-- a token is refused
pub token_refused : (text rest front : List ℕ) (at n : ℕ) (k : Kind) (s : State) (f : WktError)
    → Along text at s → IsFront text rest front at n k → taken s k at ≡ Err f
    → answer_from text 0 start ≡ Err f
token_refused text rest front at n k s f along h e =
    along.same ∙ from_refusal text at n s f (len_is text rest front at n k h) h.some
    (ap (λ z. taken s z at) (sym (kind_is text rest front at n k h)) ∙ e)
