-- What holds of each symbol of a style holds of the symbol that the style gives.
use Rattle.std.proofs.Common.{◌≡◌, refl, ℕ, ℤ, Bool, true, false, ◌&&◌, List, [], ◌∷◌, Option, Some, None, if◌then◌else◌}
use Rattle.std.specs.Prelude.{find, bytes_eq, option_map, option_and_then}
use Rattle.std.specs.Option.{option_map_or, option_or}
use Rattle.std.specs.List.{list_all}
use Rattle.cv_model.specs.declared.feature.Feature.{Feature}
use Rattle.cv_model.specs.declared.symbol.Symbol.{Symbol}
use Rattle.cv_model.specs.declared.style.Class.{Class}
use Rattle.cv_model.specs.declared.style.Range.{Range}
use Rattle.cv_model.specs.declared.style.Style.{Style}
use Rattle.cv_model.specs.declared.style.Style.TheVariants.{Single, Categorised, Graduated, Ramp}
use Rattle.cv_model.specs.Layers.{Parts}
use Rattle.cv_model.specs.Styles.{symbol_of, class_of, range_of, number_of, holds}
use Rattle.cv_model.specs.Texts.{feature_symbol, text}
use Rattle.cv_paint.specs.Symbols.{is_each_symbol}

-- two tests that hold together both hold
pub both : (p q : Bool) → (p && q) ≡ true → (p ≡ true) × (q ≡ true)
both true q h = (refl, h)
both false q h = cc

-- of an item that is found among items of which it holds
found_case : {A : Type 0} (test : Symbol → Bool) (symbol_in : A → Symbol) (asked : Bool) (x : A) (rest : Option A)
    → test (symbol_in x) ≡ true → option_map_or test (option_map symbol_in rest) true ≡ true
    → option_map_or test (option_map symbol_in (if asked then Some x else rest)) true ≡ true
found_case test symbol_in true x rest first behind = first
found_case test symbol_in false x rest first behind = behind

found : {A : Type 0} (test : Symbol → Bool) (symbol_in : A → Symbol) (asked : A → Bool) (xs : List A)
    → list_all (λ x. test (symbol_in x)) xs ≡ true
    → option_map_or test (option_map symbol_in (find asked xs)) true ≡ true
found test symbol_in asked [] all = refl
found test symbol_in asked (x ∷ xs) all =
    let have = both (test (symbol_in x)) (list_all (λ x. test (symbol_in x)) xs) all in
    found_case test symbol_in (asked x) x (find asked xs) have.0 (found test symbol_in asked xs have.1)

-- of a symbol, or else of another one
or_case : (test : Symbol → Bool) (o fallback : Option Symbol) → option_map_or test o true ≡ true
    → option_map_or test fallback true ≡ true → option_map_or test (option_or o fallback) true ≡ true
or_case test (Some s) fallback first rest = first
or_case test None fallback first rest = rest

-- of the symbol of a class by a text, and of a range by a number, that may be absent
by_text : (test : Symbol → Bool) (classes : List Class) (t : Option (List ℕ))
    → list_all (λ (c : Class). test c.symbol) classes ≡ true
    → option_map_or test (option_and_then (class_of classes) t) true ≡ true
by_text test classes None all = refl
by_text test classes (Some t) all =
    found test (λ (c : Class). c.symbol) (λ (c : Class). bytes_eq c.value t) classes all

by_number : (test : Symbol → Bool) (classes : List Range) (v : Option ℤ)
    → list_all (λ (c : Range). test c.symbol) classes ≡ true
    → option_map_or test (option_and_then (range_of classes) v) true ≡ true
by_number test classes None all = refl
by_number test classes (Some v) all = found test (λ (c : Range). c.symbol) (holds v) classes all

given : (test : Symbol → Bool) (style : Style) (t : Option (List ℕ)) → is_each_symbol test style ≡ true
    → option_map_or test (symbol_of style t) true ≡ true
unfolding symbol_of
given test (Single s) t all = all
given test (Categorised field classes fallback) t all =
    let have = both (list_all (λ (c : Class). test c.symbol) classes) (option_map_or test fallback true) all in
    or_case test (option_and_then (class_of classes) t) fallback (by_text test classes t have.0) have.1
given test (Graduated field classes) t all = by_number test classes (option_and_then number_of t) all
given test (Ramp ramp) t all = refl

-- of the symbol with which a feature is drawn
pub each_given : (test : Symbol → Bool) (parts : Parts) (feature : Feature)
    → is_each_symbol test parts.own.style ≡ true → option_map_or test (feature_symbol parts feature) true ≡ true
unfolding feature_symbol
each_given test parts feature all = given test parts.own.style (text parts feature) all
