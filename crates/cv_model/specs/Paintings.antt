-- Painted layers and composed pictures: what an image is made from, and which image that is.
--
-- Source: in outline the developer documentation of QGIS (`QgsMapRendererParallelJob`): one image for each layer.
use Rattle.std.specs.Prelude.{ℕ, List, map, zip, filter_map, Option, option_map}
use Rattle.cv_model.specs.declared.blend.Blend.{Blend}
use Rattle.cv_model.specs.declared.colour.Rgb.{Rgb}
use Rattle.cv_model.specs.declared.colour.Rgba.{Rgba}
use Rattle.cv_model.specs.Views.{PixelGrid}
use Rattle.cv_model.specs.Layers.{Layer, Parts, Project, slots}
use Rattle.cv_model.specs.Blends.{merged}
use Rattle.cv_model.specs.Pictures.{pixel}
use Rattle.cv_model.specs.Rasters.{Raster, pixels_of}

-- a layer's id and its revision
pub record Stamp : Type 0 where
  pub id : ℕ
  pub revision : ℕ

-- what a layer is painted from: its parts, and the stamps of the layers that it depends on, in the order of
-- its dependencies
pub record Input : Type 0 where
  pub parts : Parts
  pub stamps : List Stamp

-- a layer painted at a view
pub record Painting : Type 0 where
  pub input : Input
  pub view : PixelGrid

-- the image of a painting
abbrev pub image_of : Painting → Raster Rgba
image_of p = record {
  width = p.view.w;
  height = p.view.h;
  pixels = pixels_of p.view.w p.view.h (pixel p.input.parts p.view);
}

-- how a slot is merged
pub record SlotFrame : Type 0 where
  pub id : ℕ
  pub opacity : ℕ
  pub blend : Blend

-- what a composition is made on: its size, the background, and the slots, bottom first
pub record FrameParts : Type 0 where
  pub width : ℕ
  pub height : ℕ
  pub background : Rgb
  pub slots : List SlotFrame

-- a composition: its frame, and for each slot the painting, if it is there
pub record Composition : Type 0 where
  pub frame : FrameParts
  pub paintings : List (Option Painting)

-- what a slot merges at (i, j), where its painting is there
abbrev pub merged_painting : ℕ → ℕ → SlotFrame × Option Painting → Option (Rgba × ℕ × Blend)
merged_painting i j slot =
    option_map (λ (p : Painting). (pixel p.input.parts p.view i j, slot.0.opacity, slot.0.blend)) slot.1

-- the colour of a composition at (i, j)
unfoldable pub composed_at : Composition → ℕ → ℕ → Rgb
composed_at c i j = merged c.frame.background (filter_map (merged_painting i j) (zip c.frame.slots
    c.paintings))

-- the picture of a composition
abbrev pub composed : Composition → Raster Rgb
composed c = record {
  width = c.frame.width;
  height = c.frame.height;
  pixels = pixels_of c.frame.width c.frame.height (composed_at c);
}

-- how a layer's slot is merged
abbrev pub slot_frame : Layer → SlotFrame
slot_frame layer = record { id = layer.core.id; opacity = layer.opacity; blend = layer.blend }

-- the frame of a project at a view
abbrev pub frame_of : Project → PixelGrid → FrameParts
frame_of project view = record {
  width = view.w;
  height = view.h;
  background = project.background;
  slots = map slot_frame (slots project view);
}
