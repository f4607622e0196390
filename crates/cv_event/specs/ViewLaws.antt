-- What a canvas's cache has: laws, each the clause of a function of its name.
use Rattle.std.specs.Prelude.{◌≡◌, ℕ, ◌≤◌, nat_eq, true, List, length, map, slice_get, Option, Some}
use Rattle.std.specs.Prelude.{IsSomeAnd}
use Rattle.std.specs.List.{AllByRecursion, IsDistinct}
use Rattle.std.specs.Option.{option_map_or}
use Rattle.cv_model.specs.declared.project.CanvasSpec.{CanvasSpec}
use Rattle.cv_model.specs.Views.{PixelGrid}
use Rattle.cv_model.specs.Pans.{is_pan}
use Rattle.cv_model.specs.Layers.{Opening, parts}
use Rattle.cv_event.specs.declared.entry.Act.TheVariants as act
use Rattle.cv_event.specs.declared.entry.Entry.{Entry}
use Rattle.cv_event.specs.declared.slot.Slot.{Slot}
use Rattle.cv_event.specs.States.{Job, Cached, State, view_on, replay}
use Rattle.cv_event.specs.Legality.{OfSlot, Allows, IsLegal}
use Rattle.cv_event.specs.Histories.{cached, IsPainted}

-- the canvas has a view, which is a pan of the image's
abbrev pub IsPannedTo : Option PixelGrid → Cached → Type 0
IsPannedTo view image = IsSomeAnd view (λ v. is_pan image.view v ≡ true)

-- a canvas's present view is a pan of the view of each image in its cache
abbrev pub CachedViewsArePans : Type 0
CachedViewsArePans =
    (o : Opening) (journal : List Entry) (c : ℕ) → IsLegal o journal
    → AllByRecursion (IsPannedTo (view_on (replay o journal) c)) (cached (replay o journal) c)

-- the layers of images
abbrev pub layer_of : Cached → ℕ
layer_of image = image.layer

-- a cache has at most one image of each layer, and no more than its canvas's capacity
abbrev pub CachedLayersAreDistinct : Type 0
CachedLayersAreDistinct =
    (o : Opening) (journal : List Entry) (c : ℕ)
    → IsDistinct nat_eq (map layer_of (cached (replay o journal) c))
    × (length (cached (replay o journal) c)
    ≤ option_map_or (λ (spec : CanvasSpec). spec.capacity) (slice_get o.canvases c) 0)

-- a job's slot is served by an image in its canvas's cache, at the job's view, that was painted of the same
-- parts of the layer as the job's project has
pub record IsServed (s : State) (job : Job) (slot : Slot) : Type 0 where
  pub place : ℕ
  pub image : Cached
  pub image_is : slice_get (cached s job.canvas) place ≡ Some image
  pub layer_is : image.layer ≡ slot.layer
  pub view_is : image.view ≡ job.view
  pub painted : IsPainted s job.canvas image
  pub parts_are : parts painted.job.project slot.layer ≡ parts job.project slot.layer

-- what a look hits was painted of what its job would paint
abbrev pub HitsAreAlike : Type 0
HitsAreAlike =
    (o : Opening) (journal : List Entry) (who j at : ℕ) → IsLegal o journal
    → Allows (replay o journal) who (act.Look j at true)
    → OfSlot (replay o journal) j at (IsServed (replay o journal))
