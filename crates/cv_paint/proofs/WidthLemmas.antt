-- No symbol that a style gives is wider than the style's widest.
use Rattle.std.proofs.Common.{◌≡◌, refl, ℕ, ◌≤◌, max, nat_le, Bool, true, false, ◌&&◌, List, [], ◌∷◌, Option, Some, None, arith}
use Rattle.std.specs.Option.{option_map_or}
use Rattle.std.specs.List.{fold, list_all}
use Rattle.std.proofs.Math.Nat.{le-max_left, le-max_right}
use Rattle.std.proofs.lemmas.Bool.Decides.{nat_tests}
use Rattle.cv_model.specs.declared.feature.Feature.{Feature}
use Rattle.cv_model.specs.declared.symbol.Symbol.{Symbol}
use Rattle.cv_model.specs.declared.style.Class.{Class}
use Rattle.cv_model.specs.declared.style.Range.{Range}
use Rattle.cv_model.specs.declared.style.Style.{Style}
use Rattle.cv_model.specs.declared.style.Style.TheVariants.{Single, Categorised, Graduated, Ramp}
use Rattle.cv_model.specs.Layers.{Parts}
use Rattle.cv_model.specs.Texts.{feature_symbol}
use Rattle.cv_paint.specs.Symbols.{is_each_symbol}
use Rattle.cv_paint.specs.Widths.{width_of, widest_of}
use Rattle.cv_paint.proofs.StyleLemmas.{each_given}

most_holds : (k n : ℕ) → k ≤ n → nat_le k n ≡ true
most_holds k n h = grind (arith, nat_tests)

most_is : (k n : ℕ) → nat_le k n ≡ true → k ≤ n
most_is k n h = grind (arith, nat_tests)

all_hold : (p q : Bool) → p ≡ true → q ≡ true → (p && q) ≡ true
all_hold true q first second = second
all_hold false q first second = cc

-- what is at least the greatest of some widths is at least each
bounded : {A : Type 0} (symbol_in : A → Symbol) (n : ℕ) (xs : List A) (a : ℕ)
    → fold (λ m x. max m (width_of (symbol_in x))) a xs ≤ n
    → (a ≤ n) × (list_all (λ x. nat_le (width_of (symbol_in x)) n) xs ≡ true)
bounded symbol_in n [] a most = (most, refl)
bounded symbol_in n (x ∷ xs) a most =
    let own = width_of (symbol_in x) in
    let rest = bounded symbol_in n xs (max a own) most in (
      omega (arith, le-max_left a own, rest.0),
      all_hold (nat_le own n) (list_all (λ x. nat_le (width_of (symbol_in x)) n) xs)
          (most_holds own n (omega (arith, le-max_right a own, rest.0))) rest.1,
    )

or_none : (n : ℕ) (fallback : Option Symbol) → option_map_or width_of fallback 1 ≤ n
    → option_map_or (λ s. nat_le (width_of s) n) fallback true ≡ true
or_none n None most = refl
or_none n (Some s) most = most_holds (width_of s) n most

each_within : (n : ℕ) (style : Style) → widest_of style ≤ n → is_each_symbol (λ s. nat_le (width_of s) n) style ≡ true
each_within n (Single s) most = most_holds (width_of s) n most
each_within n (Categorised field classes fallback) most =
    let one = fold (λ m (c : Class). max m (width_of c.symbol)) 1 classes in
    let other = option_map_or width_of fallback 1 in
    all_hold (list_all (λ (c : Class). nat_le (width_of c.symbol) n) classes)
    (option_map_or (λ s. nat_le (width_of s) n) fallback true)
    (bounded (λ (c : Class). c.symbol) n classes 1 (omega (arith, le-max_left one other, most))).1
    (or_none n fallback (omega (arith, le-max_right one other, most)))
each_within n (Graduated field classes) most = (bounded (λ (c : Range). c.symbol) n classes 1 most).1
each_within n (Ramp ramp) most = refl

within_case : (n : ℕ) (o : Option Symbol) → option_map_or (λ s. nat_le (width_of s) n) o true ≡ true
    → option_map_or width_of o 0 ≤ n
within_case n None held = omega arith
within_case n (Some s) held = most_is (width_of s) n held

-- the symbol with which a feature is drawn is no wider than the widest of its style
pub given_within : (parts : Parts) (feature : Feature) (n : ℕ) → n ≡ widest_of parts.own.style
    → option_map_or width_of (feature_symbol parts feature) 0 ≤ n
given_within parts feature n is =
    within_case n (feature_symbol parts feature)
    (each_given (λ s. nat_le (width_of s) n) parts feature (each_within n parts.own.style (omega (arith, is))))
