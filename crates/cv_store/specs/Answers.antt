-- What a store answers to an edit, and what it is then.
use Rattle.std.specs.Prelude.{◌≡◌, ℕ, suc, Result, Ok, Err, Option, Some, None, [], ◌∷◌, if◌then◌else◌}
use Rattle.std.specs.Prelude.{Bool, true, false, map, set, slice_get, position, nat_le, IfOk, IfErr}
use Rattle.cv_model.specs.declared.edit.Edit.{Edit}
use Rattle.cv_model.specs.declared.edit.EditError.{EditError}
use Rattle.cv_model.specs.declared.edit.EditError.TheVariants.{UnknownLayer, UnknownFeature, WrongKind}
use Rattle.cv_model.specs.declared.edit.EditError.TheVariants.{DuplicateId, Limit, BadPlace, NoMemory}
use Rattle.cv_model.specs.Layers.{has_layer}
use Rattle.cv_model.specs.Edits.{verdict, step, touches_any, most_edits, is_over, contents_at, fits}
use Rattle.cv_model.specs.declared.style.Style.{Style}
use Rattle.cv_layer.specs.Layers.{RevisedCore}
use Rattle.cv_store.specs.Stores.{StoreParts, RevisedLayer, layer_of, id_of, has_id, project_of, accepted}
use Rattle.cv_store.specs.Stores.{revision_in, with_core}

-- why a store refuses an edit, or nothing where it accepts it
abbrev pub verdict_in : StoreParts → Edit → Option EditError
verdict_in s edit = verdict (project_of s) (accepted s) edit

-- the verdict that an error tells: want of memory comes where the edit is in order
abbrev pub told_by : EditError → Option EditError
told_by UnknownLayer = Some UnknownLayer
told_by UnknownFeature = Some UnknownFeature
told_by WrongKind = Some WrongKind
told_by DuplicateId = Some DuplicateId
told_by Limit = Some Limit
told_by BadPlace = Some BadPlace
told_by NoMemory = None

-- the answer is the new version where the edit is in order, else the error that the verdict says
abbrev pub Answers : StoreParts → Edit → Result ℕ EditError → Type 0
Answers s edit (Ok version) = (verdict_in s edit ≡ None) × (version ≡ suc s.version)
Answers s edit (Err error) = verdict_in s edit ≡ told_by error

-- the revision of a layer behind an accepted edit: the new version where the edit touches it and it is there
-- then, 0 where the edit took it out, and as before where the edit doesn't touch it
abbrev pub revision_after : StoreParts → Edit → ℕ → ℕ
revision_after s edit id =
    if touches_any edit (id ∷ [])
    then (if has_layer id (step (project_of s) edit).layers then suc s.version else 0)
    else revision_in s id

-- one store is another behind an accepted edit
pub record IsEdited (old : StoreParts) (edit : Edit) (new : StoreParts) : Type 0 where
  pub project : project_of new ≡ step (project_of old) edit
  pub version : new.version ≡ suc old.version
  pub revisions : (id : ℕ) → revision_in new id ≡ revision_after old edit id

-- as many edits were accepted as may be
abbrev pub is_spent : StoreParts → Bool
is_spent s = nat_le most_edits (accepted s)

-- a store has a layer
abbrev pub knows : StoreParts → ℕ → Bool
knows s layer = has_layer layer (map layer_of s.layers)

-- the place of a layer of a store that accepts a further edit
abbrev pub PlaceAnswer : StoreParts → ℕ → Result ℕ EditError → Type 0
PlaceAnswer s layer (Ok at) = (position (has_id layer) s.layers ≡ Some at) × (is_spent s ≡ false)
PlaceAnswer s layer (Err UnknownLayer) = knows s layer ≡ false
PlaceAnswer s layer (Err UnknownFeature) = ⊥
PlaceAnswer s layer (Err WrongKind) = ⊥
PlaceAnswer s layer (Err DuplicateId) = ⊥
PlaceAnswer s layer (Err Limit) = (knows s layer ≡ true) × (is_spent s ≡ true)
PlaceAnswer s layer (Err BadPlace) = ⊥
PlaceAnswer s layer (Err NoMemory) = ⊥

-- the same where the layer must be one that a style fits
abbrev pub StyledAnswer : StoreParts → ℕ → Style → Result ℕ EditError → Type 0
StyledAnswer s layer style (Ok at) =
    (position (has_id layer) s.layers ≡ Some at)
    × (fits style (contents_at (map layer_of s.layers) layer) ≡ true)
    × (is_spent s ≡ false)
StyledAnswer s layer style (Err UnknownLayer) = knows s layer ≡ false
StyledAnswer s layer style (Err UnknownFeature) = ⊥
StyledAnswer s layer style (Err WrongKind) =
    (knows s layer ≡ true) × (fits style (contents_at (map layer_of s.layers) layer) ≡ false)
StyledAnswer s layer style (Err DuplicateId) = ⊥
StyledAnswer s layer style (Err Limit) =
    (knows s layer ≡ true) × (fits style (contents_at (map layer_of s.layers) layer) ≡ true)
    × (is_spent s ≡ true)
StyledAnswer s layer style (Err BadPlace) = ⊥
StyledAnswer s layer style (Err NoMemory) = ⊥

-- what is made, or want of memory alone
abbrev pub Made : {X : Type 0} → Result X EditError → (X → Type 0) → Type 0
Made r P = IfOk r P × IfErr r (λ error. error ≡ NoMemory)

-- a layer can be put in the place of one: it has that one's id and the next version as its revision, and no
-- limit is passed with it
pub record IsChange (s : StoreParts) (at : ℕ) (made : RevisedCore) : Type 0 where
  pub same : (row : RevisedLayer) → slice_get s.layers at ≡ Some row → made.core.id ≡ id_of row
  pub revised : made.revision ≡ suc s.version
  pub small : (row : RevisedLayer) → slice_get s.layers at ≡ Some row
      → is_over (set (map layer_of s.layers) at (with_core made row).layer) ≡ false

-- a store has a layer in the place of another, at the next version
abbrev pub IsPut : StoreParts → ℕ → RevisedCore → StoreParts → Type 0
IsPut s at made t = (row : RevisedLayer) → slice_get s.layers at ≡ Some row
    → t ≡ record {
      background = s.background;
      layers = (set s.layers at (with_core made row));
      version = (suc s.version);
    }
