-- How many steps a painting takes at most. A step is an edge, a segment or a point visited for one row, or one
-- stroke, mask test or grid cell laid on one pixel.
--
-- Source: this project's own.
use Rattle.std.specs.Prelude.{ℕ, ◌+◌, ◌*◌, length, sum_by, List, Option}
use Rattle.std.specs.Option.{option_map_or}
use Rattle.cv_model.specs.declared.feature.Feature.{Feature}
use Rattle.cv_model.specs.Geometries.{GeometryLists}
use Rattle.cv_model.specs.Layers.{Contents, Features, Cells, Core, Parts}
use Rattle.cv_model.specs.Views.{PixelGrid}
use Rattle.cv_geom.specs.Runs.{edges_of, segments_of}
use Rattle.cv_layer.specs.declared.strips.Rect.{Rect}
use Rattle.cv_layer.specs.Strips.{StripPair}

-- the edges, segments and points of a geometry
abbrev pub sides_in : GeometryLists → ℕ
sides_in g = length (edges_of g.polygons) + length (segments_of g.lines) + length g.points

-- those of a feature
abbrev pub sides_of : Feature → ℕ
sides_of feature = option_map_or sides_in feature.geometry 0

-- those of what a layer holds; a grid has none
abbrev pub contents_sides : Contents → ℕ
contents_sides (Features columns features) = sum_by sides_of features
contents_sides (Cells grid) = 0

-- the features of what a layer holds
abbrev pub contents_features : Contents → ℕ
contents_features (Features columns features) = length features
contents_features (Cells grid) = 0

-- the edges, segments and points of a layer and of its mask layer
abbrev pub sides : Parts → ℕ
sides parts =
    contents_sides parts.own.contents + option_map_or (λ (core : Core). contents_sides core.contents) parts.mask 0

-- the features of a layer and of its mask layer
abbrev pub features : Parts → ℕ
features parts =
    contents_features parts.own.contents + option_map_or (λ (core : Core). contents_features core.contents) parts.mask 0

-- the rows of strips, and their pixels
abbrev pub strip_rows : StripPair → ℕ
strip_rows s = option_map_or (λ (r : Rect). r.h) s.first 0 + option_map_or (λ (r : Rect). r.h) s.second 0

abbrev pub strip_size : StripPair → ℕ
strip_size s = option_map_or (λ (r : Rect). r.h * r.w) s.first 0 + option_map_or (λ (r : Rect). r.h * r.w) s.second 0

-- the most steps of a painting of strips: two for each edge, segment and point in each row and one row more,
-- and four for each pixel and feature and one feature more
unfoldable pub most_steps : Parts → StripPair → ℕ
most_steps parts s = 2 * sides parts * (strip_rows s + 1) + 4 * strip_size s * (features parts + 1)

-- ---- within a view

-- the pixels of a view
abbrev pub view_size : PixelGrid → ℕ
view_size view = view.h * view.w

-- the most steps of some runs: one for each of these edges, segments or points in each row, and one for each pixel
unfoldable pub runs_cost : PixelGrid → ℕ → ℕ
runs_cost view n = n * view.h + view.h * view.w

-- the most steps of a geometry
unfoldable pub geometry_cost : PixelGrid → GeometryLists → ℕ
geometry_cost view g = 2 * (sides_in g * view.h) + 4 * (view.h * view.w)

-- those of a feature
abbrev pub feature_cost : PixelGrid → Feature → ℕ
feature_cost view feature = option_map_or (geometry_cost view) feature.geometry 0

-- those of features
abbrev pub features_cost : PixelGrid → List Feature → ℕ
features_cost view features = sum_by (feature_cost view) features

-- those of what a layer holds
abbrev pub contents_cost : PixelGrid → Contents → ℕ
contents_cost view (Features columns features) = features_cost view features
contents_cost view (Cells grid) = 0

-- those of a mask layer, if there is one
abbrev pub mask_cost : PixelGrid → Option Core → ℕ
mask_cost view mask = option_map_or (λ (core : Core). contents_cost view core.contents) mask 0

-- those of a layer at a view: those of its features and of its mask, and for each pixel a mask test and a cell
abbrev pub view_cost : PixelGrid → Parts → ℕ
view_cost view parts =
    contents_cost view parts.own.contents + (mask_cost view parts.mask + 2 * view_size view)

-- those of a layer at a rectangle of a view's pixels
unfoldable pub rect_cost : Parts → Rect → ℕ
rect_cost parts r = 2 * (sides parts * r.h) + 4 * (r.h * r.w * (features parts + 1))
