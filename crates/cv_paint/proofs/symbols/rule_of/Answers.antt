use Rattle.std.proofs.Common.{◌≡◌, ◌∙◌, ap, sym, List, Some, ℕ}
use Rattle.std.specs.Prelude.{option_map, option_and_then}
use Rattle.std.specs.Option.{unwrap_or}
use Rattle.cv_model.specs.declared.style.Class.{Class}
use Rattle.cv_model.specs.declared.style.Style.{Style}
use Rattle.cv_model.specs.Styles.{class_of, symbol_of}
use Rattle.cv_paint.specs.Symbols.{given_by}
use Rattle.cv_paint.proofs.SymbolLemmas.{classes_are_rule}
use Rattle.cv_paint.proofs.symbols.rule_of.Goals as goal

pub returns-in-Single : goal.returns-in-Single
unfolding symbol_of
returns-in-Single c = λ text. ap (λ (s : Style). symbol_of s text) (sym c.in-Single.is)

pub returns-in_ok-given-in-Categorised : goal.returns-in_ok-given-in-Categorised
unfolding symbol_of
returns-in_ok-given-in-Categorised c = λ text.
    let given = given_by c.in_ok-given-in-Categorised.given in
    let is : (q : List ℕ) → given q ≡ option_map Some (class_of c.in-Categorised.classes q) = λ q.
    c.in_ok-given-in-Categorised.ensures q
    ∙ ap (λ (classes : List Class). option_map Some (class_of classes q)) c.as_slice.ensures.items in
    ap (unwrap_or (option_and_then given text)) c.as_ref.ensures.value
    ∙ classes_are_rule c.in-Categorised.classes c.in-Categorised.fallback given text is
    ∙ ap (λ (s : Style). symbol_of s text) (sym c.in-Categorised.is)

pub returns-in-Ramp : goal.returns-in-Ramp
unfolding symbol_of
returns-in-Ramp c = λ text. ap (λ (s : Style). symbol_of s text) (sym c.in-Ramp.is)
