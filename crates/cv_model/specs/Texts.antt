-- Which text of a feature a style reads.
--
-- Source: this project's own.
use Rattle.std.specs.Prelude.{ℕ, Bool, List, find, position, slice_get, bytes_eq, Option, None}
use Rattle.std.specs.Prelude.{option_and_then, if◌then◌else◌, false}
use Rattle.std.specs.Option.{option_map_or}
use Rattle.cv_model.specs.declared.feature.Feature.{Feature}
use Rattle.cv_model.specs.declared.layer.Join.{Join}
use Rattle.cv_model.specs.declared.style.Field.{Field}
use Rattle.cv_model.specs.declared.style.Style.{Style}
use Rattle.cv_model.specs.declared.style.Style.TheVariants.{Single, Categorised, Graduated, Ramp}
use Rattle.cv_model.specs.declared.symbol.Symbol.{Symbol}
use Rattle.cv_model.specs.Layers.{Contents, Features, Cells, Core, Parts}
use Rattle.cv_model.specs.Styles.{symbol_of}

-- the text of a feature in the first column of this name; absent where there is no such column
abbrev pub text_in : List (List ℕ) → List ℕ → Feature → Option (List ℕ)
text_in columns name feature = option_and_then (slice_get feature.values) (position (bytes_eq name) columns)

-- that of a feature of this layer; a grid has no columns
abbrev pub text_of : Contents → List ℕ → Feature → Option (List ℕ)
text_of (Features columns features) name feature = text_in columns name feature
text_of (Cells grid) name feature = None

-- a feature has this text in a column
abbrev pub has_text : List (List ℕ) → List ℕ → List ℕ → Feature → Bool
has_text columns name text feature = option_map_or (bytes_eq text) (text_in columns name feature) false

-- the text in the column `name` of a layer's first feature that has this text in the column `key`; a grid has none
abbrev pub joined_in : Contents → List ℕ → List ℕ → List ℕ → Option (List ℕ)
joined_in (Features columns features) key name text =
    option_and_then (text_in columns name) (find (has_text columns key text) features)
joined_in (Cells grid) key name text = None

-- the text that a feature takes from the join layer
abbrev pub joined_text : Contents → Join → Contents → List ℕ → Feature → Option (List ℕ)
joined_text own join there name feature =
    option_and_then (joined_in there join.key name) (text_of own join.local feature)

-- the text of a feature that a style's field reads, of its own layer or by the join; absent where anything is
abbrev pub field_text : Parts → Field → Feature → Option (List ℕ)
field_text parts field feature =
    if field.joined
    then option_and_then
    (λ join. option_and_then
    (λ (there : Core). joined_text parts.own.contents join there.contents field.name feature) parts.join)
    parts.own.join
    else text_of parts.own.contents field.name feature

-- the text that a style reads; a style without a field reads none
abbrev pub style_text : Style → Parts → Feature → Option (List ℕ)
style_text (Single symbol) parts feature = None
style_text (Categorised field classes fallback) parts feature = field_text parts field feature
style_text (Graduated field classes) parts feature = field_text parts field feature
style_text (Ramp ramp) parts feature = None

-- the text of a feature for the style of its layer
abbrev pub text : Parts → Feature → Option (List ℕ)
text parts feature = style_text parts.own.style parts feature

-- the symbol with which a feature is drawn, if it is drawn
unfoldable pub feature_symbol : Parts → Feature → Option Symbol
feature_symbol parts feature = symbol_of parts.own.style (text parts feature)
