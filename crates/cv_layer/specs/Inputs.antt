-- What a layer is painted from.
use Rattle.std.specs.Prelude.{◌≡◌, ℕ, List, ◌∷◌, ◌++◌, Option, Some, IfSome, option_map}
use Rattle.std.specs.Option.{option_to_list, option_map_or}
use Rattle.cv_model.specs.Paintings.{Input, Stamp}
use Rattle.cv_layer.specs.Layers.{RevisedCore}

-- the revision of a layer, or 0 where it isn't there
abbrev pub revision_of : Option RevisedCore → ℕ
revision_of layer = option_map_or (λ l. l.revision) layer 0

-- the stamp of a layer that is there
abbrev pub stamp_of : RevisedCore → Stamp
stamp_of layer = record { id = layer.core.id; revision = layer.revision }

-- the stamps of an image of a layer with these mask and join layers: its own id and revision, then those of
-- the mask layer and of the join layer where these are named
abbrev pub stamps_of : RevisedCore → Option RevisedCore → Option RevisedCore → List Stamp
stamps_of own mask join =
    stamp_of own
    ∷ option_to_list (option_map (λ id. record { id = id; revision = revision_of mask }) own.core.mask)
    ++ option_to_list (option_map (λ j. record { id = j.layer; revision = revision_of join }) own.core.join)

-- the input of a layer with these mask and join layers
abbrev pub input_of : RevisedCore → Option RevisedCore → Option RevisedCore → Input
input_of own mask join = record {
  parts = record {
    own = own.core;
    mask = option_map (λ l. l.core) mask;
    join = option_map (λ l. l.core) join;
  };
  stamps = stamps_of own mask join;
}

-- what an input keeps: a mask layer that is there has the id that the layer names, and so has a join layer
pub record IsInput (i : Input) : Type 0 where
  pub mask : IfSome i.parts.mask (λ m. i.parts.own.mask ≡ Some m.id)
  pub join : IfSome i.parts.join (λ j. option_map (λ named. named.layer) i.parts.own.join ≡ Some j.id)
