-- The verdict and the outcome of an edit at the place of its layer.
use Rattle.std.proofs.Common.{◌≡◌, ◌∙◌, sym, ap, subst, refl, ℕ, suc, ◌<◌, Bool, true, false, not, List, Some, None}
use Rattle.std.proofs.Common.{map, set, length, Result, Ok, Err, [], ◌∷◌, ◌≤◌, arith, nat_le}
use Rattle.std.specs.Prelude.{slice_get, position, IfOk}
use Rattle.cv_model.specs.declared.edit.Edit.{Edit}
use Rattle.cv_model.specs.declared.edit.Edit.TheVariants.{RemoveLayer, MoveLayer}
use Rattle.cv_model.specs.declared.edit.EditError.TheVariants.{BadPlace}
use Rattle.std.proofs.lemmas.Bool.Decides.{nat_tests}
use Rattle.cv_model.specs.Layers.{Core, Layer, has_layer}
use Rattle.cv_model.specs.Edits.{touched, step_layers, step_background, change_core, change_layer, is_over}
use Rattle.cv_model.specs.Edits.{lacks_layer, lacks_feature, is_wrong_kind, is_duplicate, names_too_much, is_bad_place}
use Rattle.cv_layer.specs.Layers.{RevisedCore}
use Rattle.cv_store.specs.Stores.{StoreParts, RevisedLayer, layer_of, id_of, has_id, with_core, IsStore}
use Rattle.cv_store.specs.Tallies.{tally_of}
use Rattle.cv_store.specs.Answers.{verdict_in, IsEdited, IsChange, IsPut, is_spent, knows}
use Rattle.cv_store.proofs.Lists.{one_at, got, at_position, at_within, any_lacks, lacks_position}
use Rattle.cv_store.proofs.MapLemmas.{layer_at}
use Rattle.cv_store.proofs.Kept.{over_set, over_remove, over_move}
use Rattle.cv_store.proofs.Edited.{changed_here, is_there, without_here, moved_here, core_edited, frame_edited, with_rows}
use Rattle.cv_store.proofs.Edited.{any_rows}
use Rattle.cv_store.proofs.Verdicts.{tests, verdict_is, no_limit}

pub if_ok : {X E : Type 0} (r : Result X E) (P Q : X → Type 0) → ((x : X) → r ≡ Ok x → P x → Q x) → IfOk r P
    → IfOk r Q
if_ok (Ok x) P Q f h = f x refl h
if_ok (Err e) P Q f h = tt

pub got_ok : {X E : Type 0} (r : Result X E) (P : X → Type 0) (x : X) → r ≡ Ok x → IfOk r P → P x
got_ok r P x e h = subst (λ r. IfOk r P) e h

-- a layer that isn't found isn't there, and one that is found is
pub unknown : (s : StoreParts) (layer : ℕ) (rows : List RevisedLayer) → rows ≡ s.layers
    → position (has_id layer) rows ≡ None → knows s layer ≡ false
unknown s layer rows e h =
    ap (λ l. has_layer layer (map layer_of l)) (sym e) ∙ any_rows layer rows
    ∙ any_lacks id_of layer rows (lacks_position id_of layer rows h)

pub found_within : (s : StoreParts) (layer n : ℕ) → position (has_id layer) s.layers ≡ Some n
    → n < length s.layers
found_within s layer n h = at_within id_of layer s.layers n (at_position id_of layer s.layers n h)

pub known : (s : StoreParts) (layer n : ℕ) → IsStore s → position (has_id layer) s.layers ≡ Some n
    → knows s layer ≡ true
known s layer n was h = let row = got s.layers n (found_within s layer n h) in is_there s layer n row.0 was h row.1

-- the row there
pub row_at : (s : StoreParts) (layer n : ℕ) → position (has_id layer) s.layers ≡ Some n
    → (row : RevisedLayer) × (slice_get s.layers n ≡ Some row)
row_at s layer n h = got s.layers n (found_within s layer n h)

module _ (s : StoreParts) (e : Edit) (id n : ℕ) (was : IsStore s) (place : position (has_id id) s.layers ≡ Some n)
  where
    -- nothing stands against an edit that changes a core
    pub core_none : (f : Core → Core) (row : RevisedLayer) → slice_get s.layers n ≡ Some row → is_spent s ≡ false
        → is_over (set (map layer_of s.layers) n (record row.layer { core = f row.layer.core })) ≡ false
        → step_layers (map layer_of s.layers) e ≡ change_core id f (map layer_of s.layers)
        → lacks_layer (map layer_of s.layers) e ≡ not (has_layer id (map layer_of s.layers))
        → lacks_feature (map layer_of s.layers) e ≡ false → is_wrong_kind (map layer_of s.layers) e ≡ false
        → is_duplicate (map layer_of s.layers) e ≡ false → names_too_much e ≡ false
        → is_bad_place (map layer_of s.layers) e ≡ false → verdict_in s e ≡ None
    core_none f row here open_yet small step_is a b c d l p =
        verdict_is s e (a ∙ ap not (is_there s id n row was place here)) b c d
        (no_limit s e open_yet (ap is_over (step_is ∙ changed_here s id n row was place here (λ layer. record layer {
          core = f layer.core;
        })) ∙ small) l) p

    -- the layer that was made is put in its place
    pub core_change : (f : Core → Core) (row : RevisedLayer) → slice_get s.layers n ≡ Some row
        → (f row.layer.core).id ≡ row.layer.core.id
        → is_over (set (map layer_of s.layers) n (record row.layer { core = f row.layer.core })) ≡ false
        → (made : RevisedCore) → made ≡ record { core = f row.layer.core; revision = suc s.version }
        → IsChange s n made
    core_change f row here keeps small made is = record {
      same = λ other at. ap (λ (m : RevisedCore). m.core.id) is ∙ keeps ∙ ap id_of (one_at s.layers n row other here at);
      revised = ap (λ (m : RevisedCore). m.revision) is;
      small = λ other at.
          let same = one_at s.layers n row other here at in
          ap (λ (r : RevisedLayer). is_over (set (map layer_of s.layers) n (with_core made r).layer)) (sym same)
          ∙ ap (λ (m : RevisedCore). is_over (set (map layer_of s.layers) n (with_core m row).layer)) is ∙ small;
    }

    pub core_ok : (f : Core → Core) (row : RevisedLayer) → slice_get s.layers n ≡ Some row
        → ((c : Core) → (f c).id ≡ c.id) → touched e ≡ Some id → step_background e ≡ None
        → step_layers (map layer_of s.layers) e ≡ change_core id f (map layer_of s.layers)
        → (made : RevisedCore) → made ≡ record { core = f row.layer.core; revision = suc s.version }
        → (t : StoreParts) → IsPut s n made t → IsEdited s e t
    core_ok f row here keeps touches background step_is made is t put =
        let new = with_core made row in
        subst (λ t. IsEdited s e t) (sym (put row here))
        (core_edited s e id n row was place here f new (ap (λ (m : RevisedCore). record row.layer { core = m.core }) is)
        (keeps row.layer.core) (ap (λ (m : RevisedCore). m.revision) is) touches background step_is)

    -- the same where only the frame is changed
    frame_small : (g : Layer → Layer) (row : RevisedLayer) → slice_get s.layers n ≡ Some row
        → (g row.layer).core ≡ row.layer.core → is_over (set (map layer_of s.layers) n (g row.layer)) ≡ false
    frame_small g row here keeps =
        over_set (map layer_of s.layers) n row.layer (g row.layer) was.within (layer_at s.layers n row here)
        (ap (λ (c : Core). tally_of c.contents) keeps)

    pub frame_none : (g : Layer → Layer) (row : RevisedLayer) → slice_get s.layers n ≡ Some row → is_spent s ≡ false
        → (g row.layer).core ≡ row.layer.core
        → step_layers (map layer_of s.layers) e ≡ change_layer id g (map layer_of s.layers)
        → lacks_layer (map layer_of s.layers) e ≡ not (has_layer id (map layer_of s.layers))
        → lacks_feature (map layer_of s.layers) e ≡ false → is_wrong_kind (map layer_of s.layers) e ≡ false
        → is_duplicate (map layer_of s.layers) e ≡ false → names_too_much e ≡ false
        → is_bad_place (map layer_of s.layers) e ≡ false → verdict_in s e ≡ None
    frame_none g row here open_yet keeps step_is a b c d l p =
        verdict_is s e (a ∙ ap not (is_there s id n row was place here)) b c d
        (no_limit s e open_yet (ap is_over (step_is ∙ changed_here s id n row was place here g) ∙ frame_small g row
        here keeps) l) p

    pub frame_ok : (g : Layer → Layer) (row new : RevisedLayer) → slice_get s.layers n ≡ Some row
        → new ≡ record row { layer = g row.layer } → (g row.layer).core ≡ row.layer.core
        → touched e ≡ None → step_background e ≡ None
        → step_layers (map layer_of s.layers) e ≡ change_layer id g (map layer_of s.layers)
        → (t : StoreParts) → t ≡ with_rows s (set s.layers n new) → IsEdited s e t
    frame_ok g row new here is keeps touches background step_is t made =
        subst (λ t. IsEdited s e t) (sym made)
        (frame_edited s e id n row was place here g new (ap layer_of is) keeps
        (ap (λ (r : RevisedLayer). r.revision) is) touches background step_is)

-- ---- edits that take a layer out

pub length_layers : (rows : List RevisedLayer) → length (map layer_of rows) ≡ length rows
length_layers [] = refl
length_layers (row ∷ rows) = ap suc (length_layers rows)

pub remove_none : (s : StoreParts) (layer n : ℕ) → IsStore s → position (has_id layer) s.layers ≡ Some n
    → is_spent s ≡ false → verdict_in s (RemoveLayer layer) ≡ None
remove_none s layer n was place open_yet =
    let row = row_at s layer n place in
    verdict_is s (RemoveLayer layer) (ap not (is_there s layer n row.0 was place row.1)) refl refl refl
    (no_limit s (RemoveLayer layer) open_yet (ap is_over (without_here s layer n row.0 was place row.1)
    ∙ over_remove (map layer_of s.layers) n row.0.layer was.within (layer_at s.layers n row.0 row.1)) refl) refl

-- a move to a place that isn't there, and to one that is
module _ (s : StoreParts) (layer n to : ℕ) (was : IsStore s) (place : position (has_id layer) s.layers ≡ Some n)
    (open_yet : is_spent s ≡ false) (rows : List RevisedLayer) (same : rows ≡ s.layers) where
  move_by : {b : Bool} → nat_le (length (map layer_of s.layers)) to ≡ b
      → verdict_in s (MoveLayer layer to) ≡ tests false false false false false b
  move_by h =
      let row = row_at s layer n place in
      verdict_is s (MoveLayer layer to) (ap not (is_there s layer n row.0 was place row.1)) refl refl refl
      (no_limit s (MoveLayer layer to) open_yet (ap is_over (moved_here s layer n row.0 was place row.1 to)
      ∙ over_move (map layer_of s.layers) n to row.0.layer was.within (layer_at s.layers n row.0 row.1)) refl) h

  long : length (map layer_of s.layers) ≡ length rows
  long = length_layers s.layers ∙ ap length (sym same)

  pub move_bad : length rows ≤ to → verdict_in s (MoveLayer layer to) ≡ Some BadPlace
  move_bad over = move_by {b = true} (grind (arith, nat_tests, long, over))

  pub move_none : to < length rows → verdict_in s (MoveLayer layer to) ≡ None
  move_none before = move_by {b = false} (grind (arith, nat_tests, long, before))
