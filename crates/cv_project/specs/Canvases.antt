-- The table of canvases.
use Rattle.std.specs.Prelude.{ℕ, Bool, true, ◌==◌, if◌then◌else◌, ℤ, pos, List, [], ◌∷◌, codes, Option}
use Rattle.std.specs.Prelude.{Some, None, is_ok, Result, Ok}
use Rattle.std.specs.List.{slice_index_or}
use Rattle.std.specs.Option.{option_map_or}
use Rattle.serde_json.specs.Events.{items_len}
use Rattle.serde_json.specs.Find.{as_array}
use Rattle.cv_geom.specs.Views.{is_size, view_of}
use Rattle.cv_model.specs.Positions.{Rectangle}
use Rattle.cv_model.specs.declared.project.CanvasFile.{CanvasFile}
use Rattle.cv_project.specs.declared.refusal.Refusal.{Refusal}
use Rattle.cv_project.specs.Answers.{◌>>=◌}
use Rattle.cv_project.specs.Fields.{is_object, required, optional, with_default, tested, no_others}
use Rattle.cv_project.specs.Kinds.{spelled, whole_of, whole_in, coordinate_of}
use Rattle.cv_project.specs.Lists.{members_from, each}
use Rattle.cv_project.specs.Nodes.{TreeNode}

-- the rectangle of xmin, ymin, xmax and ymax
abbrev pub rectangle_of : List ℤ → Rectangle
rectangle_of zs = record {
  xmin = slice_index_or zs 0 (pos 0);
  ymin = slice_index_or zs 1 (pos 0);
  xmax = slice_index_or zs 2 (pos 0);
  ymax = slice_index_or zs 3 (pos 0);
}

-- a list of exactly four decimals
unfoldable pub extent_of : TreeNode → Result Rectangle Refusal
extent_of node = do
  items ← spelled node (as_array node.value)
  four ← spelled node (if items_len items == 4 then Some items else None)
  zs ← members_from (each coordinate_of) node.path [] four
  Ok (rectangle_of zs)

-- a canvas of this size has a view of the extent, if one is named
abbrev pub can_show : ℕ → ℕ → Option Rectangle → Bool
can_show w h extent = option_map_or (λ e. is_ok (view_of e w h)) extent true

unfoldable pub canvas_of : TreeNode → Result CanvasFile Refusal
canvas_of node = do
  _ ← is_object node
  width ← required whole_of (codes "width") node
  height ← required whole_of (codes "height") node
  _ ← tested (is_size width height) (codes "height") node
  cache ← with_default 67108864 (whole_in 0 268435456) (codes "cache") node
  extent ← optional extent_of (codes "extent") node
  _ ← tested (can_show width height extent) (codes "extent") node
  _ ← no_others (codes "cache" ∷ codes "extent" ∷ codes "height" ∷ codes "width" ∷ []) node
  Ok (record { width = width; height = height; cache = cache; extent = extent })
