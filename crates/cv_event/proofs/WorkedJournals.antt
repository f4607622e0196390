-- Worked journals: each is legal by computing it, and behind each a wrong act isn't allowed.
use Rattle.std.proofs.Common.{refl, ℕ, ◌*◌, Bool, true, false, List, [], ◌∷◌, ◌++◌, map, pos, Option}
use Rattle.std.proofs.Common.{Some, None, arith}
use Rattle.std.proofs.lemmas.Bool.{false≢true}
use Rattle.cv_model.specs.declared.blend.Blend.{Blend}
use Rattle.cv_model.specs.declared.blend.Blend.TheVariants.{Normal, Multiply}
use Rattle.cv_model.specs.declared.colour.Rgba.{Rgba}
use Rattle.cv_model.specs.declared.edit.Edit.{Edit}
use Rattle.cv_model.specs.declared.edit.Edit.TheVariants.{AddFeature, RemoveFeature, SetOpacity, SetVisible}
use Rattle.cv_model.specs.declared.edit.Edit.TheVariants.{AddLayer, RemoveLayer}
use Rattle.cv_model.specs.declared.edit.EditError.TheVariants.{UnknownLayer}
use Rattle.cv_model.specs.declared.feature.Feature.{Feature}
use Rattle.cv_model.specs.declared.layer.LayerData.TheVariants as held
use Rattle.cv_model.specs.declared.layer.NewLayer.{NewLayer}
use Rattle.cv_model.specs.declared.style.Style.{Style}
use Rattle.cv_model.specs.declared.style.Style.TheVariants as style
use Rattle.cv_model.specs.Positions.{Position}
use Rattle.cv_model.specs.Geometries.{GeometryLists}
use Rattle.cv_model.specs.Layers.{Features, Layer, Project, Opening}
use Rattle.cv_model.specs.Scales.{ScaleBounds, all_scales}
use Rattle.cv_model.specs.Views.{PixelGrid, IsView}
use Rattle.cv_model.specs.Pans.{pan_of}
use Rattle.cv_model.specs.Edits.{verdict, is_over, most_edits}
use Rattle.cv_model.specs.ProjectFiles.{capacity_of}
use Rattle.cv_event.specs.declared.entry.Act.{Act}
use Rattle.cv_event.specs.declared.entry.Act.TheVariants.{View, Start, Look, Deliver, Compose, Finish, Cancel}
use Rattle.cv_event.specs.declared.entry.Act.TheVariants.{Preview, Save}
use Rattle.cv_event.specs.declared.entry.Act.TheVariants as act
use Rattle.cv_event.specs.declared.entry.Entry.{Entry}
use Rattle.cv_event.specs.declared.entry.Fate.TheVariants.{Stored, Kept, Dropped}
use Rattle.cv_event.specs.States.{replay}
use Rattle.cv_event.specs.Legality.{Allows, LegalFrom}

-- ---- openings

abbrev pub filled : Option Rgba → Style
filled fill = style.Single (record { fill = fill; pen = None; marker = None })

abbrev pub grey : ℕ → Option Rgba
grey n = Some (record { r = n; g = n; b = n; a = 255 })

-- a position in whole map units
abbrev corner : ℕ → ℕ → Position
corner x y = record { x = pos (1000000 * x); y = pos (1000000 * y) }

-- a rectangle in whole map units
abbrev pub rectangle : ℕ → ℕ → ℕ → ℕ → GeometryLists
rectangle l b r t = record {
  points = [];
  lines = [];
  polygons = ((corner l b ∷ corner r b ∷ corner r t ∷ corner l t ∷ corner l b ∷ []) ∷ []) ∷ [];
}

abbrev pub layer : ℕ → Blend → Option ℕ → Option Rgba → Bool → ScaleBounds → GeometryLists → Layer
layer id blend mask fill visible scales geometry = record {
  core = record {
    id = id;
    mask = mask;
    join = None;
    style = filled fill;
    contents = Features [] ((record { id = 1; geometry = Some geometry; values = [] }) ∷ []);
  };
  name = [];
  visible = visible;
  opacity = 255;
  blend = blend;
  scales = scales;
}

-- a square above a larger one that shows where a mask does, whose own layer is hidden
abbrev pub two : ScaleBounds → Project
two scales = record {
  background = record { r = 255; g = 255; b = 255 };
  layers = layer 2 Multiply None (grey 100) true scales (rectangle 1 1 3 3)
      ∷ layer 1 Normal (Some 3) (grey 200) true all_scales (rectangle 0 0 4 4)
      ∷ layer 3 Normal None None false all_scales (rectangle 0 0 4 2) ∷ [];
}

-- with one canvas of four by four pixels and so many bytes of cache
abbrev pub opened : ScaleBounds → ℕ → Opening
opened scales cache = record {
  project = two scales;
  canvases = (record { w = 4; h = 4; capacity = capacity_of 4 4 cache }) ∷ [];
}

abbrev pub two_layers : Opening
two_layers = opened all_scales 1024

abbrev no_layers : Opening
no_layers = record {
  project = record { background = record { r = 16; g = 32; b = 48 }; layers = [] };
  canvases = (record { w = 2; h = 1; capacity = capacity_of 2 1 67108864 }) ∷ [];
}

-- a view of four by four pixels from this left edge, in doubled millionths
abbrev pub view_from : ℕ → PixelGrid
view_from left = record { lx2 = pos left; ty2 = pos 8000000; u = pos 1000000; w = 4; h = 4 }

abbrev pub small_view : PixelGrid
small_view = record { lx2 = pos 0; ty2 = pos 2000000; u = pos 1000000; w = 2; h = 1 }

pub first_is_view : IsView (view_from 0)
first_is_view = record { unit = omega arith; wide = omega arith; high = omega arith; left = (omega arith, omega arith); right = (omega arith, omega arith); top = (omega arith, omega arith); bottom = (omega arith, omega arith) }

panned_is_view : IsView (view_from 2000000)
panned_is_view = record { unit = omega arith; wide = omega arith; high = omega arith; left = (omega arith, omega arith); right = (omega arith, omega arith); top = (omega arith, omega arith); bottom = (omega arith, omega arith) }

far_is_view : IsView (view_from 18000000)
far_is_view = record { unit = omega arith; wide = omega arith; high = omega arith; left = (omega arith, omega arith); right = (omega arith, omega arith); top = (omega arith, omega arith); bottom = (omega arith, omega arith) }

small_is_view : IsView small_view
small_is_view = record { unit = omega arith; wide = omega arith; high = omega arith; left = (omega arith, omega arith); right = (omega arith, omega arith); top = (omega arith, omega arith); bottom = (omega arith, omega arith) }

-- ---- journals of caller 0

abbrev pub own : List Act → List Entry
own acts = map (λ a. record { caller = 0; act = a }) acts

-- these acts are legal behind those
abbrev pub Legal : Opening → List Act → List Act → Type 0
Legal opening past acts = LegalFrom (replay opening (own past)) (own acts)

-- this act isn't allowed behind those
abbrev pub Refused : Opening → List Act → Act → Type 0
Refused opening past a = Allows (replay opening (own past)) 0 a → ⊥

-- ---- no layers

pub no_layers_legal : Legal no_layers [] (View 0 small_view ∷ Start 0 1 ∷ Compose 1 ∷ Finish 1 ∷ Save 0 1 ∷ [])
no_layers_legal = ((small_is_view, refl, refl), ((refl, refl, omega arith), (refl, ((refl, refl), (refl, tt)))))

-- it isn't finished before it is composed, and what isn't finished isn't taken
pub finish_before_compose : Refused no_layers (View 0 small_view ∷ Start 0 1 ∷ []) (Finish 1)
finish_before_compose h = absurd cc

pub save_before_finish : Refused no_layers (View 0 small_view ∷ Start 0 1 ∷ Compose 1 ∷ []) (Save 0 1)
save_before_finish h = h

-- ---- two layers: the first job, and a second one of the same view

abbrev pub viewed : List Act
viewed = View 0 (view_from 0) ∷ Start 0 1 ∷ []

abbrev pub painted : List Act
painted = Look 1 0 false ∷ Deliver 1 0 Stored ∷ Look 1 1 false ∷ Deliver 1 1 Stored ∷ []

abbrev pub finished : List Act
finished = viewed ++ painted ++ Compose 1 ∷ Finish 1 ∷ []

abbrev pub again : List Act
again = Start 0 2 ∷ Look 2 0 true ∷ Look 2 1 true ∷ Compose 2 ∷ Finish 2 ∷ Save 0 2 ∷ []

pub first_job_legal : Legal two_layers [] finished
first_job_legal = (
  (first_is_view, refl, refl),
  (
    (refl, refl, omega arith),
    (
      (refl, refl),
      (
        (refl, refl),
        (
          (refl, refl),
          ((refl, refl), (refl, ((refl, refl), tt))),
        ),
      ),
    ),
  ),
)

pub second_job_legal : Legal two_layers finished (Save 0 1 ∷ again)
second_job_legal =
    (refl, ((refl, refl, omega arith), ((refl, refl), ((refl, refl), (refl, ((refl, refl), (refl, tt)))))))

pub cold_look : Refused two_layers (finished ++ Save 0 1 ∷ Start 0 2 ∷ []) (Look 2 0 false)
cold_look h = false≢true h.1

pub cold_delivery : Refused two_layers (viewed ++ Look 1 0 false ∷ []) (Deliver 1 0 Kept)
cold_delivery h = absurd cc

pub number_left_out : Refused two_layers finished (Start 0 3)
number_left_out h = absurd cc

pub upper_slot_first : Refused two_layers viewed (Look 1 1 false)
upper_slot_first h = absurd cc

pub other_caller : Allows (replay two_layers (own (viewed ++ Look 1 0 false ∷ []))) 1 (Deliver 1 0 Stored) → ⊥
other_caller h = absurd cc

-- ---- an edit of the mask while a job runs: what depends on it is kept, and not stored

-- an edit that is accepted
abbrev pub accepted : Edit → Act
accepted e = act.Edit e None

abbrev mask_emptied : List Act
mask_emptied = viewed ++ accepted (RemoveFeature 3 1) ∷ Look 1 0 false ∷ []

abbrev mask_emptied_rest : List Act
mask_emptied_rest =
    Deliver 1 0 Kept ∷ Look 1 1 false ∷ Deliver 1 1 Stored ∷ Compose 1 ∷ Finish 1 ∷ Start 0 2
    ∷ Look 2 0 false ∷ Deliver 2 0 Stored ∷ Look 2 1 true ∷ Compose 2 ∷ Finish 2 ∷ Save 0 2 ∷ []

pub mask_emptied_legal : Legal two_layers viewed (accepted (RemoveFeature 3 1) ∷ Look 1 0 false ∷ mask_emptied_rest)
unfolding verdict is_over most_edits
mask_emptied_legal = (
  refl,
  (
    (refl, refl),
    (
      (refl, refl),
      (
        (refl, refl),
        (
          (refl, refl),
          (
            refl,
            (
              (refl, refl),
              (
                (refl, refl, omega arith),
                (
                  (refl, refl),
                  (
                    (refl, refl),
                    (
                      (refl, refl),
                      (
                        refl,
                        (
                          (refl, refl),
                          (
                            refl,
                            tt,
                          ),
                        ),
                      ),
                    ),
                  ),
                ),
              ),
            ),
          ),
        ),
      ),
    ),
  ),
)

pub stale_mask_stored : Refused two_layers mask_emptied (Deliver 1 0 Stored)
stale_mask_stored h = absurd cc

-- ---- a frame edit leaves the cache

pub opacity_legal : Legal two_layers finished (accepted (SetOpacity 2 128) ∷ again)
unfolding verdict is_over most_edits
opacity_legal =
    (refl, ((refl, refl, omega arith), ((refl, refl), ((refl, refl), (refl, ((refl, refl), (refl, tt)))))))

pub opacity_misses : Refused two_layers (finished ++ accepted (SetOpacity 2 128) ∷ Start 0 2 ∷ []) (Look 2 0
    false)
opacity_misses h = absurd cc

-- ---- a cancelled job

abbrev pub cancelled : List Act
cancelled = viewed ++ Look 1 0 false ∷ Cancel 1 ∷ []

pub cancelled_legal : Legal two_layers viewed (Look 1 0 false ∷ Cancel 1 ∷ Deliver 1 0 Dropped ∷ [])
cancelled_legal = ((refl, refl), (refl, ((refl, refl), tt)))

pub cancelled_kept : Refused two_layers cancelled (Deliver 1 0 Kept)
cancelled_kept h = absurd cc

pub cancelled_stored : Refused two_layers cancelled (Deliver 1 0 Stored)
cancelled_stored h = absurd cc

pub cancelled_saved : Refused two_layers (cancelled ++ Deliver 1 0 Dropped ∷ []) (Save 0 1)
cancelled_saved h = h

pub cancelled_twice : Refused two_layers (cancelled ++ Deliver 1 0 Dropped ∷ []) (Cancel 1)
cancelled_twice h = absurd cc

-- ---- a job that the next start ends

abbrev superseded : List Act
superseded = viewed ++ Look 1 0 false ∷ Start 0 2 ∷ []

pub superseded_legal : Legal two_layers viewed (Look 1 0 false ∷ Start 0 2 ∷ Deliver 1 0 Dropped
    ∷ Look 2 0 false ∷ Deliver 2 0 Stored ∷ Look 2 1 false ∷ Deliver 2 1 Stored ∷ Compose 2 ∷ Finish 2 ∷ [])
superseded_legal = (
  (refl, refl),
  (
    (refl, refl, omega arith),
    (
      (refl, refl),
      (
        (refl, refl),
        (
          (refl, refl),
          (
            (refl, refl),
            ((refl, refl), (refl, ((refl, refl), tt))),
          ),
        ),
      ),
    ),
  ),
)

pub superseded_stored : Refused two_layers superseded (Deliver 1 0 Stored)
superseded_stored h = absurd cc

pub superseded_looked : Refused two_layers superseded (Look 1 1 false)
superseded_looked h = absurd cc

pub superseded_cancelled : Refused two_layers superseded (Cancel 1)
superseded_cancelled h = absurd cc

-- ---- a mask layer that is taken out and put in again

abbrev mask_layer : NewLayer
mask_layer = record {
  id = 3;
  name = 109 ∷ 97 ∷ 115 ∷ 107 ∷ [];
  contents = held.Text (record { columns = []; features = []; notes = [] });
  visible = true;
  opacity = 255;
  blend = Normal;
  mask = None;
  join = None;
  style = filled None;
  scales = all_scales;
}

abbrev upper_half : Feature
upper_half = record { id = 1; geometry = Some (rectangle 0 2 4 4); values = [] }

abbrev remasked : List Act
remasked =
    accepted (RemoveLayer 3) ∷ accepted (AddLayer 2 mask_layer) ∷ accepted (AddFeature 3 upper_half)
    ∷ accepted (SetVisible 3 false) ∷ Start 0 2 ∷ []

pub remasked_legal : Legal two_layers finished (remasked ++ Look 2 0 false ∷ Deliver 2 0 Stored ∷ Look 2 1 true
    ∷ Compose 2 ∷ Finish 2 ∷ Save 0 2 ∷ [])
unfolding verdict is_over most_edits
remasked_legal = (
  refl,
  (
    refl,
    (
      refl,
      (
        refl,
        (
          (refl, refl, omega arith),
          (
            (refl, refl),
            (
              (refl, refl),
              (
                (refl, refl),
                (
                  refl,
                  ((refl, refl), (refl, tt)),
                ),
              ),
            ),
          ),
        ),
      ),
    ),
  ),
)

-- the image that depends on the mask is gone, and the other one stays
pub kept_dependent : Refused two_layers (finished ++ remasked) (Look 2 0 true)
kept_dependent h = absurd cc

pub dropped_other : Refused two_layers (finished ++ remasked ++ Look 2 0 false ∷ Deliver 2 0 Stored ∷ []) (Look 2
    1 false)
dropped_other h = absurd cc

-- absent at the start, added and taken out again: two edits touched it
abbrev unmasked : List Act
unmasked =
    View 0 (view_from 0) ∷ accepted (RemoveLayer 3) ∷ Start 0 1 ∷ Look 1 0 false
    ∷ accepted (AddLayer 2 mask_layer) ∷ accepted (RemoveLayer 3) ∷ []

pub unmasked_legal : Legal two_layers [] (unmasked ++ Deliver 1 0 Kept ∷ [])
unfolding verdict is_over most_edits
unmasked_legal = (
  (first_is_view, refl, refl),
  (
    refl,
    (
      (refl, refl, omega arith),
      (
        (refl, refl),
        (
          refl,
          (
            refl,
            (
              (
                refl,
                refl,
              ),
              tt,
            ),
          ),
        ),
      ),
    ),
  ),
)

pub unmasked_stored : Refused two_layers unmasked (Deliver 1 0 Stored)
unmasked_stored h = absurd cc

-- ---- capacities

abbrev pub no_cache : Opening
no_cache = opened all_scales 63

pub no_cache_legal : Legal no_cache viewed (Look 1 0 false ∷ Deliver 1 0 Kept ∷ Look 1 1 false ∷ Deliver 1 1 Kept ∷ [])
no_cache_legal = ((refl, refl), ((refl, refl), ((refl, refl), ((refl, refl), tt))))

pub no_cache_stored : Refused no_cache (viewed ++ Look 1 0 false ∷ []) (Deliver 1 0 Stored)
no_cache_stored h = absurd cc

abbrev pub one_image : Opening
one_image = opened all_scales 64

pub one_image_legal : Legal one_image finished (Start 0 2 ∷ Look 2 0 false ∷ Deliver 2 0 Stored ∷ Look 2 1 false
    ∷ Deliver 2 1 Stored ∷ Compose 2 ∷ Finish 2 ∷ [])
one_image_legal = (
  (refl, refl, omega arith),
  (
    (refl, refl),
    (
      (refl, refl),
      (
        (refl, refl),
        (
          (refl, refl),
          (
            refl,
            (
              (
                refl,
                refl,
              ),
              tt,
            ),
          ),
        ),
      ),
    ),
  ),
)

pub cut_image_hit : Refused one_image (finished ++ Start 0 2 ∷ []) (Look 2 0 true)
cut_image_hit h = absurd cc

-- ---- a refused edit

abbrev no_layer_nine : Edit
no_layer_nine = SetOpacity 9 10

pub refused_edit_legal : Legal two_layers finished (act.Edit no_layer_nine (Some UnknownLayer) ∷ Save 0 1 ∷ [])
unfolding verdict
refused_edit_legal = (refl, (refl, tt))

pub refused_edit_accepted : Refused two_layers finished (accepted no_layer_nine)
unfolding verdict
refused_edit_accepted h = absurd cc

-- ---- a preview of a running job

abbrev pub half_done : List Act
half_done = viewed ++ Look 1 0 false ∷ Deliver 1 0 Stored ∷ []

pub preview_legal : Legal two_layers half_done (Preview 1 1 ∷ Look 1 1 false ∷ Deliver 1 1 Stored ∷ Compose 1
    ∷ Finish 1 ∷ [])
preview_legal = ((refl, refl), ((refl, refl), ((refl, refl), (refl, ((refl, refl), tt)))))

-- neither a slot that isn't ready, nor none, is listed
pub open_slot_previewed : Refused two_layers half_done (Preview 1 3)
open_slot_previewed h = absurd cc

pub missed_slot_previewed : Refused two_layers (half_done ++ Look 1 1 false ∷ []) (Preview 1 3)
missed_slot_previewed h = absurd cc

pub ready_slot_left_out : Refused two_layers half_done (Preview 1 0)
ready_slot_left_out h = absurd cc

pub composed_too_soon : Refused two_layers (half_done ++ Look 1 1 false ∷ []) (Compose 1)
composed_too_soon h = absurd cc

-- ---- a layer whose scales leave it out

abbrev pub scaled : Opening
scaled = opened (record { least = Some (pos 500000); greatest = Some (pos 750000) }) 1024

pub scaled_legal : Legal scaled viewed (Look 1 0 false ∷ Deliver 1 0 Stored ∷ Compose 1 ∷ Finish 1 ∷ Save 0 1
    ∷ [])
scaled_legal = ((refl, refl), ((refl, refl), (refl, ((refl, refl), (refl, tt)))))

pub hidden_layer_looked : Refused scaled half_done (Look 1 1 false)
hidden_layer_looked h = absurd cc

-- ---- pans

-- by one pixel: the images are there at the old view, so no look hits
abbrev panned : List Act
panned = View 0 (view_from 2000000) ∷ Start 0 2 ∷ []

pub panned_legal : Legal two_layers finished (panned ++ Look 2 0 false ∷ Deliver 2 0 Stored ∷ Look 2 1 false
    ∷ Deliver 2 1 Stored ∷ Compose 2 ∷ Finish 2 ∷ Save 0 2 ∷ [])
unfolding pan_of
panned_legal = (
  (panned_is_view, refl, refl),
  (
    (refl, refl, omega arith),
    (
      (refl, refl),
      (
        (refl, refl),
        (
          (refl, refl),
          ((refl, refl), (refl, ((refl, refl), (refl, tt)))),
        ),
      ),
    ),
  ),
)

pub old_view_hit : Refused two_layers (finished ++ panned) (Look 2 0 true)
unfolding pan_of
old_view_hit h = absurd cc

-- away and back again: the cache was kept
abbrev away_and_back : List Act
away_and_back = View 0 (view_from 18000000) ∷ View 0 (view_from 0) ∷ Start 0 2 ∷ []

pub away_and_back_legal : Legal two_layers finished (away_and_back ++ Look 2 0 true ∷ Look 2 1 true ∷ Compose 2
    ∷ Finish 2 ∷ Save 0 2 ∷ [])
unfolding pan_of
away_and_back_legal = (
  (far_is_view, refl, refl),
  (
    (first_is_view, refl, refl),
    (
      (refl, refl, omega arith),
      (
        (refl, refl),
        ((refl, refl), (refl, ((refl, refl), (refl, tt)))),
      ),
    ),
  ),
)

pub pan_empties : Refused two_layers (finished ++ away_and_back) (Look 2 0 false)
unfolding pan_of
pan_empties h = absurd cc

-- a zoom, and a pan by half a pixel, empty it
abbrev pub zoomed : PixelGrid
zoomed = record { lx2 = pos 2000000; ty2 = pos 6000000; u = pos 500000; w = 4; h = 4 }

pub zoom_hit : Refused two_layers (finished ++ View 0 zoomed ∷ View 0 (view_from 0) ∷ Start 0 2 ∷ []) (Look 2 0
    true)
unfolding pan_of
zoom_hit h = absurd cc

pub half_pixel_hit : Refused two_layers (finished ++ View 0 (view_from 1000000) ∷ View 0 (view_from 0)
    ∷ Start 0 2 ∷ []) (Look 2 0 true)
unfolding pan_of
half_pixel_hit h = absurd cc

-- ---- a view between a job's start and a delivery

pub zoomed_is_view : IsView zoomed
zoomed_is_view = record { unit = omega arith; wide = omega arith; high = omega arith; left = (omega arith, omega arith); right = (omega arith, omega arith); top = (omega arith, omega arith); bottom = (omega arith, omega arith) }

-- by one pixel: what is delivered is of an older view, so it is kept, and not stored
abbrev panned_between : List Act
panned_between = viewed ++ Look 1 0 false ∷ View 0 (view_from 2000000) ∷ []

pub panned_between_legal : Legal two_layers panned_between (Deliver 1 0 Kept ∷ Look 1 1 false ∷ Deliver 1 1 Kept
    ∷ Compose 1 ∷ Finish 1 ∷ Save 0 1 ∷ [])
unfolding pan_of
panned_between_legal = ((refl, refl), ((refl, refl), ((refl, refl), (refl, ((refl, refl), (refl, tt))))))

pub panned_between_view : Legal two_layers viewed (Look 1 0 false ∷ View 0 (view_from 2000000) ∷ [])
panned_between_view = ((refl, refl), ((panned_is_view, refl, refl), tt))

pub panned_between_stored : Refused two_layers panned_between (Deliver 1 0 Stored)
unfolding pan_of
panned_between_stored h = absurd cc

-- by a zoom too
abbrev zoomed_between : List Act
zoomed_between = viewed ++ Look 1 0 false ∷ View 0 zoomed ∷ []

pub zoomed_between_legal : Legal two_layers viewed (Look 1 0 false ∷ View 0 zoomed ∷ Deliver 1 0 Kept
    ∷ Look 1 1 false ∷ Deliver 1 1 Kept ∷ Compose 1 ∷ Finish 1 ∷ Save 0 1 ∷ [])
unfolding pan_of
zoomed_between_legal =
    ((refl, refl), ((zoomed_is_view, refl, refl), ((refl, refl), ((refl, refl), ((refl, refl), (refl, ((refl, refl), (refl, tt))))))))

pub zoomed_between_stored : Refused two_layers zoomed_between (Deliver 1 0 Stored)
unfolding pan_of
zoomed_between_stored h = absurd cc

-- and back again: the job's view is the present one, so it is stored
abbrev there_and_back : List Act
there_and_back = zoomed_between ++ View 0 (view_from 0) ∷ []

pub there_and_back_legal : Legal two_layers zoomed_between (View 0 (view_from 0) ∷ Deliver 1 0 Stored
    ∷ Look 1 1 false ∷ Deliver 1 1 Stored ∷ [])
unfolding pan_of
there_and_back_legal = ((first_is_view, refl, refl), ((refl, refl), ((refl, refl), ((refl, refl), tt))))

pub there_and_back_kept : Refused two_layers there_and_back (Deliver 1 0 Kept)
unfolding pan_of
there_and_back_kept h = absurd cc

-- a look misses behind a pan, though its image is there at the job's view
abbrev panned_before_look : List Act
panned_before_look = finished ++ Start 0 2 ∷ View 0 (view_from 2000000) ∷ []

pub panned_before_look_legal : Legal two_layers panned_before_look (Look 2 0 false ∷ Deliver 2 0 Kept
    ∷ Look 2 1 false ∷ Deliver 2 1 Kept ∷ Compose 2 ∷ Finish 2 ∷ [])
unfolding pan_of
panned_before_look_legal = ((refl, refl), ((refl, refl), ((refl, refl), ((refl, refl), (refl, ((refl, refl), tt))))))

pub panned_before_look_hit : Refused two_layers panned_before_look (Look 2 0 true)
unfolding pan_of
panned_before_look_hit h = absurd cc

-- ---- an edit between a look and its delivery

-- of the mask: kept; of a layer on which the image doesn't depend, or of a frame: stored
abbrev edited_between : Edit → List Act
edited_between e = viewed ++ Look 1 0 false ∷ accepted e ∷ []

pub mask_between_legal : Legal two_layers viewed (Look 1 0 false ∷ accepted (RemoveFeature 3 1) ∷ Deliver 1 0 Kept
    ∷ [])
unfolding verdict is_over most_edits
mask_between_legal = ((refl, refl), (refl, ((refl, refl), tt)))

pub mask_between_stored : Refused two_layers (edited_between (RemoveFeature 3 1)) (Deliver 1 0 Stored)
mask_between_stored h = absurd cc

pub other_between_legal : Legal two_layers viewed (Look 1 0 false ∷ accepted (RemoveFeature 2 1)
    ∷ Deliver 1 0 Stored ∷ Look 1 1 false ∷ Deliver 1 1 Kept ∷ [])
unfolding verdict is_over most_edits
other_between_legal = ((refl, refl), (refl, ((refl, refl), ((refl, refl), ((refl, refl), tt)))))

pub other_between_kept : Refused two_layers (edited_between (RemoveFeature 2 1)) (Deliver 1 0 Kept)
other_between_kept h = absurd cc

pub frame_between_legal : Legal two_layers viewed (Look 1 0 false ∷ accepted (SetOpacity 1 128)
    ∷ Deliver 1 0 Stored ∷ [])
unfolding verdict is_over most_edits
frame_between_legal = ((refl, refl), (refl, ((refl, refl), tt)))

pub frame_between_kept : Refused two_layers (edited_between (SetOpacity 1 128)) (Deliver 1 0 Kept)
frame_between_kept h = absurd cc

-- a view has its canvas's size
pub view_of_other_size : Refused two_layers [] (View 0 small_view)
view_of_other_size h = absurd cc

pub view_of_no_canvas : Refused two_layers [] (View 1 (view_from 0))
view_of_no_canvas h = h
