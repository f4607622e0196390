-- The table of symbols.
use Rattle.std.specs.Prelude.{[], ◌∷◌, codes, Result, Ok}
use Rattle.cv_model.specs.Markers.{MarkerParts}
use Rattle.cv_model.specs.Pens.{PenParts}
use Rattle.cv_model.specs.declared.symbol.Symbol.{Symbol}
use Rattle.cv_project.specs.declared.refusal.Refusal.{Refusal}
use Rattle.cv_project.specs.Answers.{◌>>=◌}
use Rattle.cv_project.specs.Fields.{is_object, required, optional, no_others}
use Rattle.cv_project.specs.Kinds.{whole_in, word_in, colour_of}
use Rattle.cv_project.specs.Nodes.{TreeNode}
use Rattle.cv_project.specs.Words.{shape_word, shapes}

unfoldable pub pen_of : TreeNode → Result PenParts Refusal
pen_of node = do
  _ ← is_object node
  colour ← required colour_of (codes "colour") node
  width ← required (whole_in 1 64) (codes "width") node
  _ ← no_others (codes "colour" ∷ codes "width" ∷ []) node
  Ok (record { colour = colour; width = width })

unfoldable pub marker_of : TreeNode → Result MarkerParts Refusal
marker_of node = do
  _ ← is_object node
  shape ← required (word_in shape_word shapes) (codes "shape") node
  colour ← required colour_of (codes "colour") node
  size ← required (whole_in 1 256) (codes "size") node
  _ ← no_others (codes "colour" ∷ codes "shape" ∷ codes "size" ∷ []) node
  Ok (record { shape = shape; colour = colour; size = size })

unfoldable pub symbol_of : TreeNode → Result Symbol Refusal
symbol_of node = do
  _ ← is_object node
  fill ← optional colour_of (codes "fill") node
  pen ← optional pen_of (codes "pen") node
  marker ← optional marker_of (codes "marker") node
  _ ← no_others (codes "fill" ∷ codes "marker" ∷ codes "pen" ∷ []) node
  Ok (record { fill = fill; pen = pen; marker = marker })
