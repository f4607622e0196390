-- The loop over the tokens of a header.
use Rattle.std.proofs.Common.{◌≡◌, ℕ, ◌+◌, ◌<◌, ◌≤◌, List, [], ◌∷◌, length, take, drop, Option, Some, None}
use Rattle.std.proofs.Common.{Result, Ok, Err, sym, ap, ◌∙◌, subst, arith, length-drop}
use Rattle.std.proofs.lemmas.List.{drop_all}
use Rattle.cv_reading.specs.Tokens.{Token, cut}
use Rattle.cv_grid.specs.declared.error.GridError.{GridError}
use Rattle.cv_grid.specs.declared.header.Reading.{Reading}
use Rattle.cv_grid.specs.Tokens.{byte_kind, tokens_of}
use Rattle.cv_grid.specs.Scanning.{front_len}
use Rattle.cv_grid.specs.Ranges.{IsInRange}
use Rattle.cv_grid.specs.Answers.{taken, going_on, ended, header_from, at_start}
use Rattle.cv_grid.proofs.ScanLemmas.{tokens_at, token_at, white_on, token_on, space_from_len, token_from_len}

-- up to an offset the tokens are taken: the rest gives the answer of the whole text
pub record HeaderAlong (text : List ℕ) (at : ℕ) (r : Reading) : Type 0 where
  pub within : at ≤ length text
  pub same : header_from text (tokens_of text) at_start ≡ header_from text (tokens_at text at) r
  pub range : IsInRange r.said

-- white space at the offset
pub header_white : (text rest : List ℕ) (at n : ℕ) (r : Reading) → HeaderAlong text at r → at < length text
    → rest ≡ drop at text → n ≡ front_len rest → n ≡ 0
    → HeaderAlong text (at + 1) r
header_white text rest at n r along h e len none = record {
  within = omega arith;
  same = along.same ∙ ap (λ ts. header_from text ts r)
      (white_on text at h (space_from_len text at h (ap front_len (sym e) ∙ sym len ∙ none)));
  range = along.range;
}

-- a token at the offset
pub record IsToken (text rest front : List ℕ) (at n : ℕ) : Type 0 where
  pub inside : at < length text
  pub rest_is : rest ≡ drop at text
  pub len : n ≡ front_len rest
  pub some : 0 < n
  pub fits : n ≤ length rest
  pub front_is : front ≡ take n rest

-- the tokens from the offset on are that token and those behind it
pub token_first : (text rest front : List ℕ) (at n : ℕ) → IsToken text rest front at n
    → tokens_at text at ≡ (record { at = at; bytes = front }) ∷ tokens_at text (at + n)
token_first text rest front at n h =
    let len : n ≡ front_len (drop at text) = h.len ∙ ap front_len h.rest_is in
    let bytes : front ≡ take n (drop at text) = h.front_is ∙ ap (take n) h.rest_is in
    let some : 0 < front_len (drop at text) = subst (λ k. 0 < k) len h.some in
    token_on text at h.inside (token_from_len text at h.inside some)
    ∙ ap (λ k. token_at text at k ∷ tokens_at text (at + k)) (sym len)
    ∙ ap (λ (b : List ℕ). (record { at = at; bytes = b }) ∷ tokens_at text (at + n)) (sym bytes)

-- a token ends within the text
pub behind_token : (text rest front : List ℕ) (at n : ℕ) → IsToken text rest front at n → at + n ≤ length text
behind_token text rest front at n h =
    let fits : n ≤ length (drop at text) = subst (λ z. n ≤ length z) h.rest_is h.fits in
    let inside = h.inside in
    omega (arith, length-drop at text)

-- the answer at the token
at_token : (text rest front : List ℕ) (at n : ℕ) (r : Reading) (o : Result (Option Reading) GridError)
    → HeaderAlong text at r → IsToken text rest front at n
    → o ≡ taken text r (record { at = at; bytes = front })
    → header_from text (tokens_of text) at_start
    ≡ going_on (header_from text (tokens_at text (at + n))) r.said
    ((record { at = at; bytes = front }) ∷ tokens_at text (at + n)) o
at_token text rest front at n r o along h e =
    along.same
    ∙ ap (λ ts. header_from text ts r) (token_first text rest front at n h)
    ∙ ap (going_on (header_from text (tokens_at text (at + n))) r.said
    ((record { at = at; bytes = front }) ∷ tokens_at text (at + n))) (sym e)

-- a token that is taken
pub header_taken : (text rest front : List ℕ) (at n : ℕ) (r u : Reading) → HeaderAlong text at r
    → IsToken text rest front at n
    → Ok (Some u) ≡ taken text r (record { at = at; bytes = front }) → IsInRange u.said
    → HeaderAlong text (at + n) u
header_taken text rest front at n r u along h e range = record {
  within = behind_token text rest front at n h;
  same = at_token text rest front at n r (Ok (Some u)) along h e;
  range = range;
}

-- a token that is refused
pub header_refused : (text rest front : List ℕ) (at n : ℕ) (r : Reading) (f : GridError)
    → HeaderAlong text at r → IsToken text rest front at n
    → Err f ≡ taken text r (record { at = at; bytes = front })
    → header_from text (tokens_of text) at_start ≡ Err f
header_refused text rest front at n r f along h e = at_token text rest front at n r (Err f) along h e

-- a token that is the header's no more
pub header_done : (text rest front : List ℕ) (at n : ℕ) (r : Reading) → HeaderAlong text at r
    → IsToken text rest front at n
    → Ok None ≡ taken text r (record { at = at; bytes = front })
    → header_from text (tokens_of text) at_start ≡ Ok (r.said, tokens_at text at)
header_done text rest front at n r along h e =
    at_token text rest front at n r (Ok None) along h e
    ∙ ap (λ (ts : List Token). Ok (r.said, ts)) (sym (token_first text rest front at n h))

-- the end of the text
pub header_at_end : (text : List ℕ) (at : ℕ) (r : Reading) → HeaderAlong text at r → length text ≤ at
    → header_from text (tokens_of text) at_start ≡ ended at r.said r.word
header_at_end text at r along h =
    let w = along.within in
    let place : length text ≡ at = omega arith in
    along.same
    ∙ ap (λ bs. header_from text (cut byte_kind at bs) r) (drop_all at text h)
    ∙ ap (λ k. ended k r.said r.word) place

-- behind the end of the text are no tokens
pub no_tokens : (text : List ℕ) (at : ℕ) → length text ≤ at → [] ≡ tokens_at text at
no_tokens text at h = sym (ap (cut byte_kind at) (drop_all at text h))
