-- A text layer at a view, as it is painted.
--
-- Source: this project's own.
use Rattle.std.specs.Prelude.{ℕ, ◌+◌, List}
use Rattle.std.specs.List.{flat_map}
use Rattle.cv_model.specs.declared.colour.Rgba.{Rgba}
use Rattle.cv_model.specs.Views.{centre_of}
use Rattle.cv_model.specs.Colours.{laid}
use Rattle.cv_model.specs.Rasters.{pixels_of}
use Rattle.cv_model.specs.Pictures.{feature_strokes}
use Rattle.cv_paint.specs.declared.painted.Scene.{Scene}
use Rattle.cv_paint.specs.Finish.{masked}
use Rattle.cv_paint.specs.Costs.{features_cost, view_size}

-- its pixels, as its mask shows them: the strokes of its features, each over those before
abbrev pub scene_pixels : Scene → List Rgba
scene_pixels s =
    pixels_of s.view.now.w s.view.now.h (masked s.mask.now
    (λ i j. laid (flat_map (feature_strokes s.symbols.now s.view.now (centre_of s.view.now i j)) s.table.now.features)))

-- its most steps: those of its features, and a mask test for each pixel
abbrev pub scene_cost : Scene → ℕ
scene_cost s = features_cost s.view.now s.table.now.features + view_size s.view.now
