-- The bytes so far, and those of the pixels that are left, are the bytes wanted.
use Rattle.std.proofs.Common.{◌≡◌, ◌++◌, drop}
use Rattle.std.specs.List.{flat_map}
use Rattle.cv_model.specs.Rasters.{pixel_bytes}
use Rattle.cv_image.proofs.pixmap.push_pixels.Given as goal

abbrev pub invariant-loop-pixel : goal.invariant-loop-pixel
invariant-loop-pixel l =
    l.bytes.items ++ flat_map pixel_bytes (drop l.pixel-index l.pixels) ≡ l.fn.bytes.items ++ flat_map pixel_bytes l.pixels
