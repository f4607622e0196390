-- What a mask covers.
--
-- Source: this project's own.
use Rattle.std.specs.Prelude.{ℕ, ◌≡◌, ◌<◌, Bool, true, ◌||◌, List, fold, Option}
use Rattle.cv_model.specs.Positions.{Position}
use Rattle.cv_model.specs.Views.{PixelGrid, centre_of}
use Rattle.cv_model.specs.Layers.{Contents, Core}
use Rattle.cv_model.specs.Rasters.{Raster}
use Rattle.cv_model.specs.Pictures.{shows, is_shown}
use Rattle.cv_paint.specs.Finish.{HasSize, IsMaskOf, shows_at}
use Rattle.cv_canvas.specs.Cover.{is_covered_in}
use Rattle.cv_geom.specs.declared.runs.Run.{Run}
use Rattle.cv_canvas.specs.Canvas.{changed}

-- pixels of which these runs are covered too
abbrev pub with_covered : (ℕ → ℕ → Bool) → List Run → ℕ → ℕ → Bool
with_covered before runs = fold (changed (λ _. true)) before runs

-- each pixel of a view is covered where it was, and where a test holds at its centre
pub record Covers (view : PixelGrid) (test : Position → Bool) (before after : ℕ → ℕ → Bool) : Type 0 where
  pub at : (i j : ℕ) → i < view.w → j < view.h → after i j ≡ (before i j || test (centre_of view i j))

-- a mask of the size of a view shows what a mask layer shows at each centre
pub record IsMask (view : PixelGrid) (layer : Option Core) (mask : Option (Raster Bool)) : Type 0 where
  pub sized : IsMaskOf view mask
  pub shows_are : (i j : ℕ) → i < view.w → j < view.h → shows_at mask i j ≡ is_shown (centre_of view i j) layer

-- pixels of the size of a view are covered where a mask layer's contents show them
pub record IsCoverOf (view : PixelGrid) (contents : Contents) (cover : Raster Bool) : Type 0 where
  pub sized : HasSize view cover
  pub shows_are : (i j : ℕ) → i < view.w → j < view.h → is_covered_in cover i j ≡ shows (centre_of view i j) contents
