-- The composition of a project's slots, each with its painting, is the project's picture.
use Rattle.std.proofs.Common.{◌≡◌, ◌∙◌, ap, ap₂, sym, subst, true, List, map, Option}
use Rattle.cv_model.specs.declared.colour.Rgb.{Rgb}
use Rattle.cv_model.specs.Layers.{Project, slots}
use Rattle.cv_model.specs.Paintings.{Painting, SlotFrame, FrameParts, Composition, composed, slot_frame, frame_of}
use Rattle.cv_model.specs.Pictures.{picture}
use Rattle.cv_model.specs.Views.{PixelGrid}
use Rattle.cv_compose.specs.Inputs.{IsComposition}
use Rattle.cv_compose.specs.Laws.{ArePlacesOf}
use Rattle.cv_compose.proofs.LawLemmas.{composes_all_slots, slots_are_composition}

module _ (project : Project) (view : PixelGrid) where
  -- a view with the frame that is made of its size, a background and slots
  pub frame_is : (seen : PixelGrid) (background : Rgb) (frames : List SlotFrame) (frame : FrameParts)
      → frame ≡ record { width = seen.w; height = seen.h; background = background; slots = frames }
      → seen ≡ view → background ≡ project.background → frames ≡ map slot_frame (slots project view)
      → frame ≡ frame_of project view
  frame_is seen background frames frame is same_view same_background same_frames =
      is ∙ ap (λ (v : PixelGrid). record { width = v.w; height = v.h; background = background; slots = frames }) same_view
      ∙ ap₂ (λ (b : Rgb) (f : List SlotFrame). record { width = view.w; height = view.h; background = b; slots = f })
      same_background same_frames

  module _ (frame : FrameParts) (images : List (Option Painting)) (is : frame ≡ frame_of project view)
      (are : ArePlacesOf project view (λ k. true) 0 (slots project view) images) where
    -- they can be composed
    pub can_compose : IsComposition (record { frame = frame; paintings = images })
    can_compose =
        subst (λ (f : FrameParts). IsComposition (record { frame = f; paintings = images })) (sym is)
        (slots_are_composition project view (λ k. true) images are)

    -- and what is composed of them is the picture
    pub composes : (input : Composition) → input ≡ record { frame = frame; paintings = images }
        → composed input ≡ picture project view
    composes input input_is =
        ap composed (input_is ∙ ap (λ (f : FrameParts). record { frame = f; paintings = images }) is)
        ∙ composes_all_slots project view images are
