-- Stamps: the ids and revisions of the layers that an image depends on.
use Rattle.std.specs.Prelude.{List, [], ◌∷◌}
use Rattle.cv_model.specs.Paintings.{Stamp}
use Rattle.cv_layer.specs.declared.stamp.Stamps.{Stamps}
use Rattle.cv_layer.specs.declared.stamp.Stamps.TheVariants.{One, Two, Three}

-- the stamps in order
abbrev pub stamp_list : Stamps → List Stamp
stamp_list (One a) = a ∷ []
stamp_list (Two a b) = a ∷ b ∷ []
stamp_list (Three a b c) = a ∷ b ∷ c ∷ []
