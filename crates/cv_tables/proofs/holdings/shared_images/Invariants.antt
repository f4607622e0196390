use Rattle.std.proofs.Common.{◌≡◌, take}
use Rattle.cv_tables.proofs.holdings.shared_images.Given as goal

abbrev pub invariant-loop-image : goal.invariant-loop-image
invariant-loop-image l = l.made ≡ take l.image-index l.images
