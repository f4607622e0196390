-- The verdict of an edit, test by test.
use Rattle.std.proofs.Common.{◌≡◌, ◌∙◌, sym, ap, refl, ℕ, suc, Bool, true, false, not, List, [], ◌∷◌, Option, None}
use Rattle.std.proofs.Common.{map, ◌||◌, Result, Ok, Err}
use Rattle.std.specs.Prelude.{OnOk}
use Rattle.cv_model.specs.declared.edit.Edit.{Edit}
use Rattle.cv_model.specs.declared.edit.EditError.{EditError}
use Rattle.cv_model.specs.declared.edit.EditError.TheVariants.{UnknownLayer, UnknownFeature, WrongKind}
use Rattle.cv_model.specs.declared.edit.EditError.TheVariants.{DuplicateId, Limit, BadPlace, NoMemory}
use Rattle.cv_model.specs.declared.style.Style.{Style}
use Rattle.cv_model.specs.Layers.{Layer, has_layer}
use Rattle.cv_model.specs.Edits.{verdict, first_refusal, lacks_layer, lacks_feature, is_wrong_kind, is_duplicate}
use Rattle.cv_model.specs.Edits.{passes_limit, is_bad_place, is_over, step_layers, names_too_much}
use Rattle.cv_model.specs.Edits.{fits, contents_at}
use Rattle.cv_store.specs.Stores.{StoreParts, layer_of, accepted}
use Rattle.cv_store.specs.Answers.{verdict_in, told_by, Answers, PlaceAnswer, StyledAnswer, Made, is_spent}

abbrev pub tests : Bool → Bool → Bool → Bool → Bool → Bool → Option EditError
tests a b c d l p =
    first_refusal
    ((a, UnknownLayer) ∷ (b, UnknownFeature) ∷ (c, WrongKind) ∷ (d, DuplicateId) ∷ (l, Limit) ∷ (p, BadPlace) ∷ [])

module _ (s : StoreParts) (e : Edit) where
  abbrev pub layers : List Layer
  layers = map layer_of s.layers

  pub verdict_is : {a b c d l p : Bool} → lacks_layer layers e ≡ a → lacks_feature layers e ≡ b
      → is_wrong_kind layers e ≡ c → is_duplicate layers e ≡ d → passes_limit layers (accepted s) e ≡ l
      → is_bad_place layers e ≡ p → verdict_in s e ≡ tests a b c d l p
  unfolding verdict
  verdict_is a b c d l p = λ i. tests (a i) (b i) (c i) (d i) (l i) (p i)

  -- no limit is passed
  pub no_limit : is_spent s ≡ false → is_over (step_layers layers e) ≡ false → names_too_much e ≡ false
      → passes_limit layers (accepted s) e ≡ false
  no_limit a b c = λ i. a i || (b i || c i)

  pub spent_limit : is_spent s ≡ true → passes_limit layers (accepted s) e ≡ true
  spent_limit a = ap (λ x. x || (is_over (step_layers layers e) || names_too_much e)) a

  pub over_limit : is_spent s ≡ false → is_over (step_layers layers e) ≡ true
      → passes_limit layers (accepted s) e ≡ true
  over_limit a b = λ i. a i || (b i || names_too_much e)

  -- the refusals of an edit that only needs its layer to be there
  pub place_refused : (layer : ℕ) (error : EditError) → lacks_layer layers e ≡ not (has_layer layer layers)
      → lacks_feature layers e ≡ false → is_wrong_kind layers e ≡ false → is_duplicate layers e ≡ false
      → PlaceAnswer s layer (Err error) → verdict_in s e ≡ told_by error
  place_refused layer UnknownLayer a b c d h = verdict_is (a ∙ ap not h) refl refl refl refl refl
  place_refused layer UnknownFeature a b c d h = absurd h
  place_refused layer WrongKind a b c d h = absurd h
  place_refused layer DuplicateId a b c d h = absurd h
  place_refused layer Limit a b c d h = verdict_is (a ∙ ap not h.0) b c d (spent_limit h.1) refl
  place_refused layer BadPlace a b c d h = absurd h
  place_refused layer NoMemory a b c d h = absurd h

  pub styled_refused : (layer : ℕ) (style : Style) (error : EditError)
      → lacks_layer layers e ≡ not (has_layer layer layers) → lacks_feature layers e ≡ false
      → is_wrong_kind layers e ≡ not (fits style (contents_at layers layer)) → is_duplicate layers e ≡ false
      → StyledAnswer s layer style (Err error) → verdict_in s e ≡ told_by error
  styled_refused layer style UnknownLayer a b c d h = verdict_is (a ∙ ap not h) refl refl refl refl refl
  styled_refused layer style UnknownFeature a b c d h = absurd h
  styled_refused layer style WrongKind a b c d h = verdict_is (a ∙ ap not h.0) b (c ∙ ap not h.1) refl refl refl
  styled_refused layer style DuplicateId a b c d h = absurd h
  styled_refused layer style Limit a b c d h =
      verdict_is (a ∙ ap not h.0) b (c ∙ ap not h.1) d (spent_limit h.2) refl
  styled_refused layer style BadPlace a b c d h = absurd h
  styled_refused layer style NoMemory a b c d h = absurd h

  -- the answer of a change that can want memory alone
  pub answered : (r : Result ℕ EditError) → verdict_in s e ≡ None → Made r (λ version. version ≡ suc s.version)
      → Answers s e r
  answered (Ok version) none h = (none, h.0)
  answered (Err error) none h = none ∙ sym (ap told_by h.1)

pub on_ok : {X E : Type 0} (r : Result X E) (P Q : Type 0) → (P → Q) → OnOk r P → OnOk r Q
on_ok (Ok x) P Q f h = f h
on_ok (Err e) P Q f h = tt
