-- The tables of sources, joins and scales.
use Rattle.std.specs.Prelude.{Bool, true, int_le, ℤ, pos, [], ◌∷◌, codes, Option, Result, Ok}
use Rattle.std.specs.Option.{option_map_or}
use Rattle.cv_model.specs.Scales.{ScaleBounds}
use Rattle.cv_model.specs.declared.delimiter.Delimiter.TheVariants.{Comma}
use Rattle.cv_model.specs.declared.layer.Join.{Join}
use Rattle.cv_model.specs.declared.project.Source.{Source}
use Rattle.cv_model.specs.declared.project.Source.TheVariants.{Text, Grid}
use Rattle.cv_project.specs.declared.refusal.Refusal.{Refusal}
use Rattle.cv_project.specs.declared.words.SourceKind.{SourceKind}
use Rattle.cv_project.specs.declared.words.SourceKind.TheVariants as kind
use Rattle.cv_project.specs.Answers.{◌>>=◌}
use Rattle.cv_project.specs.Fields.{is_object, required, optional, with_default, tested, no_others}
use Rattle.cv_project.specs.Kinds.{id_of, name_of, word_in, decimal_in}
use Rattle.cv_project.specs.Nodes.{TreeNode}
use Rattle.cv_project.specs.Words.{delimiter_word, delimiters, source_word, sources}

unfoldable pub text_source_of : TreeNode → Result Source Refusal
text_source_of node = do
  file ← required name_of (codes "file") node
  delimiter ← with_default Comma (word_in delimiter_word delimiters) (codes "delimiter") node
  geometry ← with_default (codes "wkt") name_of (codes "geometry") node
  _ ← no_others (codes "delimiter" ∷ codes "file" ∷ codes "geometry" ∷ codes "kind" ∷ []) node
  Ok (Text file delimiter geometry)

unfoldable pub grid_source_of : TreeNode → Result Source Refusal
grid_source_of node = do
  file ← required name_of (codes "file") node
  _ ← no_others (codes "file" ∷ codes "kind" ∷ []) node
  Ok (Grid file)

-- the fields of each kind of source
abbrev pub sourced : SourceKind → TreeNode → Result Source Refusal
sourced kind.Text node = text_source_of node
sourced kind.Grid node = grid_source_of node

unfoldable pub source_of : TreeNode → Result Source Refusal
source_of node = do
  _ ← is_object node
  source ← required (word_in source_word sources) (codes "kind") node
  sourced source node

unfoldable pub join_of : TreeNode → Result Join Refusal
join_of node = do
  _ ← is_object node
  layer ← required id_of (codes "layer") node
  local ← required name_of (codes "local") node
  key ← required name_of (codes "key") node
  _ ← no_others (codes "key" ∷ codes "layer" ∷ codes "local" ∷ []) node
  Ok (record { layer = layer; local = local; key = key })

-- a bound of scales: 0 to 10^9 map units to a pixel
abbrev pub scale_of : TreeNode → Result ℤ Refusal
scale_of = decimal_in (pos 0) (pos 1000000000000000)

-- the least isn't above the greatest, where both are there
abbrev pub in_order : Option ℤ → Option ℤ → Bool
in_order least greatest = option_map_or (λ l. option_map_or (λ g. int_le l g) greatest true) least true

unfoldable pub scales_of : TreeNode → Result ScaleBounds Refusal
scales_of node = do
  _ ← is_object node
  least ← optional scale_of (codes "least") node
  greatest ← optional scale_of (codes "greatest") node
  _ ← tested (in_order least greatest) (codes "greatest") node
  _ ← no_others (codes "greatest" ∷ codes "least" ∷ []) node
  Ok (record { least = least; greatest = greatest })
