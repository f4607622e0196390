-- What a composition keeps.
use Rattle.std.specs.Prelude.{◌≡◌, Option, Some, None}
use Rattle.std.specs.List.{AllZip}
use Rattle.cv_model.specs.Paintings.{Painting, SlotFrame, Composition}
use Rattle.cv_model.specs.Views.{PixelGrid}

-- a slot's painting is of the slot's layer and at this view, if it is there
abbrev pub IsSlotPainting : PixelGrid → SlotFrame → Option Painting → Type 0
IsSlotPainting view slot None = Unit {0}
IsSlotPainting view slot (Some p) = (p.input.parts.own.id ≡ slot.id) × (p.view ≡ view)

-- a composition has one place for each slot of its frame, and the paintings there are of their slots' layers
-- and all at one view, whose size is the frame's
pub record IsComposition (c : Composition) : Type 0 where
  pub view : PixelGrid
  pub width : view.w ≡ c.frame.width
  pub height : view.h ≡ c.frame.height
  pub slots : AllZip (IsSlotPainting view) c.frame.slots c.paintings
