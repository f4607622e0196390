-- Colours laid on a pixel, some and then the others.
use Rattle.std.proofs.Common.{◌≡◌, List, ◌++◌}
use Rattle.std.proofs.lemmas.List.Sums.{fold-append}
use Rattle.cv_model.specs.declared.colour.Rgba.{Rgba}
use Rattle.cv_model.specs.Colours.{over, laid_on}

-- a list of colours and one more behind it are laid one after the other
pub laid_more : (below : Rgba) (xs ys : List Rgba) → laid_on below (xs ++ ys) ≡ laid_on (laid_on below xs) ys
laid_more below xs ys = fold-append (λ backdrop colour. over colour backdrop) below xs ys
