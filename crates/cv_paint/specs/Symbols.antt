-- Which symbol a feature is drawn with, by what is found once for a piece.
--
-- Source: this project's own.
use Rattle.std.specs.Prelude.{ℕ, ◌≡◌, Bool, true, false, ◌&&◌, bytes_eq, List, Option, Some, None, option_map, option_and_then}
use Rattle.std.specs.Prelude.{find, position, slice_get}
use Rattle.std.specs.Option.{option_copied, option_map_or, unwrap_or}
use Rattle.std.specs.List.{list_all}
use Rattle.std.specs.HashMap.{HashMap, get_by}
use denote.Ref.{Bor}
use Rattle.cv_model.specs.declared.feature.Feature.{Feature}
use Rattle.cv_model.specs.declared.style.Class.{Class}
use Rattle.cv_model.specs.declared.style.Field.{Field}
use Rattle.cv_model.specs.declared.style.Range.{Range}
use Rattle.cv_model.specs.declared.style.Style.{Style}
use Rattle.cv_model.specs.declared.style.Style.TheVariants.{Single, Categorised, Graduated, Ramp}
use Rattle.cv_model.specs.declared.symbol.Symbol.{Symbol}
use Rattle.cv_model.specs.Layers.{Contents, Features, Cells, Parts}
use Rattle.cv_model.specs.Styles.{symbol_of}
use Rattle.cv_model.specs.Texts.{feature_symbol}
use Rattle.cv_paint.specs.declared.symbols.Rule.{Rule}
use Rattle.cv_paint.specs.declared.symbols.Rule.TheVariants.{Same, ByText, ByStyle}

-- what a map gives to a text: nothing, or a symbol, or that there is none
abbrev pub given_by : {S : Type 0} → HashMap (Bor (List ℕ)) (Option (Bor Symbol)) S → List ℕ
    → Option (Option Symbol)
given_by given text = option_map option_copied (get_by (λ k. bytes_eq text k.now) given)

-- the symbol that a rule gives to a text, which may be absent
abbrev pub symbol_by : Rule → Option (List ℕ) → Option Symbol
symbol_by (Same symbol) text = option_copied symbol
symbol_by (ByText given other) text =
    unwrap_or (option_and_then (given_by given) text) (option_copied other)
symbol_by (ByStyle style) text = symbol_of style.now text

-- a rule gives to each text, and to an absent one, what a style gives
abbrev pub IsRuleOf : Style → Rule → Type 0
IsRuleOf style rule = (text : Option (List ℕ)) → symbol_by rule text ≡ symbol_of style text

-- the text of a feature in a column, if there is the column
abbrev pub text_at : Option ℕ → Feature → Option (List ℕ)
text_at column feature = option_and_then (slice_get feature.values) column

-- the first of these features with a text in a column
abbrev pub first_at : Option ℕ → List ℕ → List Feature → Option Feature
first_at column text features = find (λ f. option_map_or (bytes_eq text) (text_at column f) false) features

-- the symbol that a rule gives to the text of a feature in a column
abbrev pub row_symbol : Rule → Option ℕ → Feature → Option Symbol
row_symbol rule column feature = symbol_by rule (text_at column feature)

-- what the first of some features with a text in their key column gives by another column, if there is one
abbrev pub joined_symbol : Rule → Option ℕ → Option ℕ → List Feature → List ℕ → Option (Option Symbol)
joined_symbol rule key column features text = option_map (row_symbol rule column) (first_at key text features)

-- the place of the first column of a name; a grid has no columns
abbrev pub column_of : Contents → List ℕ → Option ℕ
column_of (Features columns features) name = position (bytes_eq name) columns
column_of (Cells grid) name = None

-- the field that a style reads, if it reads one
abbrev pub field_of : Style → Option Field
field_of (Single symbol) = None
field_of (Categorised field classes fallback) = Some field
field_of (Graduated field classes) = Some field
field_of (Ramp ramp) = None

-- a rule gives to the text of each feature in a column the symbol with which the feature is drawn
abbrev pub AreSymbols : Parts → Option ℕ → Rule → Type 0
AreSymbols parts column rule = (feature : Feature) → row_symbol rule column feature ≡ feature_symbol parts feature

-- a test holds of each symbol that a style can give
abbrev pub is_each_symbol : (Symbol → Bool) → Style → Bool
is_each_symbol test (Single symbol) = test symbol
is_each_symbol test (Categorised field classes fallback) =
    list_all (λ (c : Class). test c.symbol) classes && option_map_or test fallback true
is_each_symbol test (Graduated field classes) = list_all (λ (c : Range). test c.symbol) classes
is_each_symbol test (Ramp ramp) = true
