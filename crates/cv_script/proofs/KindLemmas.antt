-- Texts and lists of them.
use Rattle.std.proofs.Common.{◌≡◌, ℕ, ◌+◌, Bool, true, false, List, [], ◌∷◌, ◌++◌, drop, Some, None}
use Rattle.std.proofs.Common.{refl, sym, ap, ◌∙◌, append_assoc, append-nil, arith}
use Rattle.std.specs.List.{list_all, IsDistinct}
use Rattle.std.specs.Str.{IsUtf8, is_utf8}
use Rattle.std.proofs.lemmas.Str.{IsUtf8-from_is_utf8, is_utf8-from_IsUtf8}
use Rattle.cv_model.specs.Features.{IsFeatureTable}
use Rattle.cv_script.specs.Kinds.{text, texts}

-- what is UTF-8 is a text
pub text_some : (word : List ℕ) → IsUtf8 word → text word ≡ Some word
unfolding text
text_some word h = rw (is_utf8-from_IsUtf8 word h) refl

none_of : (word : List ℕ) (b : Bool) → is_utf8 word ≡ b → (IsUtf8 word → ⊥) → text word ≡ None
unfolding text
none_of word true e h = absurd (h (IsUtf8-from_is_utf8 word e))
none_of word false e h = rw e refl

-- and what isn't is none
pub text_none : (word : List ℕ) → (IsUtf8 word → ⊥) → text word ≡ None
text_none word h = none_of word (is_utf8 word) refl h

says_of : (word made : List ℕ) (b : Bool) → is_utf8 word ≡ b → text word ≡ Some made
    → (is_utf8 word ≡ true) × (made ≡ word)
unfolding text
says_of word made true e h = let k : Some word ≡ Some made = rw e at h in (e, cc)
says_of word made false e h = let k : None ≡ Some made = rw e at h in cc

bad_of : (word : List ℕ) (b : Bool) → is_utf8 word ≡ b → text word ≡ None → is_utf8 word ≡ false
unfolding text
bad_of word true e h = let k : Some word ≡ None = rw e at h in cc
bad_of word false e h = e

-- behind some texts that are read: they and the further words are all, and are UTF-8 where all are
pub record TextsAlong (words : List (List ℕ)) (i : ℕ) (made : List (List ℕ)) : Type 0 where
  pub joined : made ++ drop i words ≡ words
  pub same : list_all is_utf8 (drop i words) ≡ list_all is_utf8 words

rest_of : (rest : List (List ℕ)) (word : List ℕ) → is_utf8 word ≡ true
    → list_all is_utf8 rest ≡ list_all is_utf8 (word ∷ rest)
rest_of rest word h = rw h refl

rest_bad : (rest : List (List ℕ)) (word : List ℕ) → is_utf8 word ≡ false
    → list_all is_utf8 (word ∷ rest) ≡ false
rest_bad rest word h = rw h refl

-- one more text is read
pub texts_more : (words : List (List ℕ)) (i : ℕ) (made : List (List ℕ)) (word t : List ℕ)
    → TextsAlong words i made → drop i words ≡ word ∷ drop (i + 1) words → text word ≡ Some t
    → TextsAlong words (i + 1) (made ++ t ∷ [])
texts_more words i made word t along here says =
    let said = says_of word t (is_utf8 word) refl says in record {
      joined = append_assoc made (t ∷ []) (drop (i + 1) words)
          ∙ ap (λ x. made ++ (x ∷ drop (i + 1) words)) said.1 ∙ ap (λ x. made ++ x) (sym here)
          ∙ along.joined;
      same = rest_of (drop (i + 1) words) word said.0 ∙ ap (list_all is_utf8) (sym here) ∙ along.same;
    }

-- all texts are read
pub texts_all : (words : List (List ℕ)) (i : ℕ) (made : List (List ℕ)) → TextsAlong words i made
    → drop i words ≡ [] → texts words ≡ Some made
unfolding texts
texts_all words i made along ends =
    let all : true ≡ list_all is_utf8 words = ap (list_all is_utf8) (sym ends) ∙ along.same in
    let whole : made ≡ words = sym (append-nil made) ∙ ap (λ x. made ++ x) (sym ends) ∙ along.joined in
    rw (sym all) (ap Some (sym whole))

-- a word that is no text decides
pub texts_bad : (words : List (List ℕ)) (i : ℕ) (made : List (List ℕ)) (word : List ℕ)
    → TextsAlong words i made → drop i words ≡ word ∷ drop (i + 1) words → text word ≡ None
    → texts words ≡ None
unfolding texts
texts_bad words i made word along here bad =
    let none : false ≡ list_all is_utf8 words = sym (rest_bad (drop (i + 1) words) word
    (bad_of word (is_utf8 word) refl bad)) ∙ ap (list_all is_utf8) (sym here) ∙ along.same in
    rw (sym none) refl

-- the test of UTF-8
pub utf8_true : (bytes : List ℕ) → IsUtf8 bytes → is_utf8 bytes ≡ true
utf8_true bytes h = is_utf8-from_IsUtf8 bytes h

false_of : (bytes : List ℕ) (b : Bool) → is_utf8 bytes ≡ b → (IsUtf8 bytes → ⊥) → is_utf8 bytes ≡ false
false_of bytes true e h = absurd (h (IsUtf8-from_is_utf8 bytes e))
false_of bytes false e h = e

pub utf8_false : (bytes : List ℕ) → (IsUtf8 bytes → ⊥) → is_utf8 bytes ≡ false
utf8_false bytes h = false_of bytes (is_utf8 bytes) refl h

-- a layer without features keeps what its type wants
pub no_features : (columns : List (List ℕ))
    → IsFeatureTable (record { columns = columns; features = []; notes = [] })
unfolding IsDistinct
no_features columns = record { distinct = tt; whole = λ k d h. absurd (omega (arith, h)) }
