-- The tables of styles.
use Rattle.std.specs.Prelude.{ℕ, Bool, true, false, not, ◌&&◌, if◌then◌else◌, ℤ, int_lt, List, [], ◌∷◌}
use Rattle.std.specs.Prelude.{codes, is_some, Option, Some, None, Result, Ok, Err}
use Rattle.cv_model.specs.declared.ramp.Stop.{Stop}
use Rattle.cv_model.specs.declared.style.Class.{Class}
use Rattle.cv_model.specs.declared.style.Field.{Field}
use Rattle.cv_model.specs.declared.style.Range.{Range}
use Rattle.cv_model.specs.declared.style.Style.{Style}
use Rattle.cv_model.specs.declared.style.Style.TheVariants.{Single, Categorised, Graduated, Ramp}
use Rattle.cv_project.specs.declared.refusal.Refusal.{Refusal}
use Rattle.cv_project.specs.declared.refusal.Refusal.TheVariants.{Missing, WrongKind}
use Rattle.cv_project.specs.declared.words.StyleKind.{StyleKind}
use Rattle.cv_project.specs.declared.words.StyleKind.TheVariants as kind
use Rattle.cv_project.specs.Answers.{◌>>=◌}
use Rattle.cv_project.specs.Fields.{field, is_object, required, optional, tested, no_others}
use Rattle.cv_project.specs.Kinds.{text_of, name_of, word_in, coordinate_of, colour_of}
use Rattle.cv_project.specs.Lists.{list_of, each}
use Rattle.cv_project.specs.Nodes.{TreeNode, field_path}
use Rattle.cv_project.specs.Symbols.{symbol_of}
use Rattle.cv_project.specs.Words.{ramp_word, ramps, style_word, styles}

-- ---- the column of a style

-- the column that `joined` names, where `field` is absent; where both are absent, `field` is missing
abbrev pub joined_or : TreeNode → Option (List ℕ) → Result Field Refusal
joined_or node None = Err (Missing (field_path node.path (codes "field")))
joined_or node (Some name) = Ok (record { joined = true; name = name })

-- the column that `field` names
abbrev pub own_or : TreeNode → Option (List ℕ) → Result Field Refusal
own_or node None = do
  joined ← optional name_of (codes "joined") node
  joined_or node joined
own_or node (Some name) = Ok (record { joined = false; name = name })

-- the column that a style reads
unfoldable pub column_of : TreeNode → Result Field Refusal
column_of node = do
  own ← optional name_of (codes "field") node
  own_or node own

-- both names of a column stand there
abbrev pub names_twice : TreeNode → Bool
names_twice node = is_some (field (codes "field") node) && is_some (field (codes "joined") node)

-- the fields of a style that reads a column, among others; `joined` beside `field` is none of them
abbrev pub column_names : TreeNode → List (List ℕ) → List (List ℕ)
column_names node names = if names_twice node
    then codes "field" ∷ names else codes "field" ∷ codes "joined" ∷ names

-- ---- the members of lists

unfoldable pub class_of : TreeNode → Result Class Refusal
class_of node = do
  _ ← is_object node
  value ← required text_of (codes "value") node
  symbol ← required symbol_of (codes "symbol") node
  _ ← no_others (codes "symbol" ∷ codes "value" ∷ []) node
  Ok (record { value = value; symbol = symbol })

unfoldable pub range_of : TreeNode → Result Range Refusal
range_of node = do
  _ ← is_object node
  lower ← required coordinate_of (codes "lower") node
  upper ← required coordinate_of (codes "upper") node
  symbol ← required symbol_of (codes "symbol") node
  _ ← no_others (codes "lower" ∷ codes "symbol" ∷ codes "upper" ∷ []) node
  Ok (record { lower = lower; upper = upper; symbol = symbol })

unfoldable pub stop_of : TreeNode → Result Stop Refusal
stop_of node = do
  _ ← is_object node
  value ← required coordinate_of (codes "value") node
  colour ← required colour_of (codes "colour") node
  _ ← no_others (codes "colour" ∷ codes "value" ∷ []) node
  Ok (record { value = value; colour = colour })

-- each stop's value is above the one before it, the first of which is v
abbrev pub ascends_from : ℤ → List Stop → Bool
ascends_from v [] = true
ascends_from v (stop ∷ rest) = int_lt v stop.value && ascends_from stop.value rest

-- each stop's value is above the one before it
abbrev pub ascends : List Stop → Bool
ascends [] = true
ascends (stop ∷ rest) = ascends_from stop.value rest

-- ---- the four styles

unfoldable pub single_of : TreeNode → Result Style Refusal
single_of node = do
  symbol ← required symbol_of (codes "symbol") node
  _ ← no_others (codes "kind" ∷ codes "symbol" ∷ []) node
  Ok (Single symbol)

unfoldable pub categorised_of : TreeNode → Result Style Refusal
categorised_of node = do
  column ← column_of node
  classes ← required (list_of 0 1024 (each class_of)) (codes "classes") node
  fallback ← optional symbol_of (codes "fallback") node
  _ ← no_others (column_names node (codes "classes" ∷ codes "fallback" ∷ codes "kind" ∷ [])) node
  Ok (Categorised column classes fallback)

unfoldable pub graduated_of : TreeNode → Result Style Refusal
graduated_of node = do
  column ← column_of node
  classes ← required (list_of 0 1024 (each range_of)) (codes "classes") node
  _ ← no_others (column_names node (codes "classes" ∷ codes "kind" ∷ [])) node
  Ok (Graduated column classes)

unfoldable pub ramp_of : TreeNode → Result Style Refusal
ramp_of node = do
  ramp ← required (word_in ramp_word ramps) (codes "ramp") node
  stops ← required (list_of 1 256 (each stop_of)) (codes "stops") node
  _ ← tested (ascends stops) (codes "stops") node
  _ ← no_others (codes "kind" ∷ codes "ramp" ∷ codes "stops" ∷ []) node
  Ok (Ramp (record { kind = ramp; stops = stops }))

-- a kind of style is one for grids
abbrev pub is_for_grids : StyleKind → Bool
is_for_grids kind.Single = false
is_for_grids kind.Categorised = false
is_for_grids kind.Graduated = false
is_for_grids kind.Ramp = true

-- a kind of style fits the source: a ramp is for grids, and another style for texts
abbrev pub fits : Bool → StyleKind → Bool
fits true style = is_for_grids style
fits false style = not (is_for_grids style)

-- a kind of style is one that fits the source
unfoldable pub fitting : Bool → StyleKind → TreeNode → Result (Unit {0}) Refusal
fitting grid style node = if fits grid style
    then Ok tt else Err (WrongKind (field_path node.path (codes "kind")))

-- the fields of each kind of style
abbrev pub styled : StyleKind → TreeNode → Result Style Refusal
styled kind.Single node = single_of node
styled kind.Categorised node = categorised_of node
styled kind.Graduated node = graduated_of node
styled kind.Ramp node = ramp_of node

-- the style of a layer whose source is a grid or is none
unfoldable pub style_of : Bool → TreeNode → Result Style Refusal
style_of grid node = do
  _ ← is_object node
  style ← required (word_in style_word styles) (codes "kind") node
  _ ← fitting grid style node
  styled style node
