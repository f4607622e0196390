-- More worked journals: the order of a cache, two canvases, what is done once, and by whom.
use Rattle.std.proofs.Common.{refl, ℕ, true, false, List, [], ◌∷◌, ◌++◌}
use Rattle.std.proofs.Common.{None, arith}
use Rattle.cv_model.specs.declared.blend.Blend.TheVariants.{Normal}
use Rattle.cv_model.specs.declared.edit.Edit.TheVariants.{RemoveFeature, SetVisible}
use Rattle.cv_model.specs.declared.project.CanvasSpec.{CanvasSpec}
use Rattle.cv_model.specs.Layers.{Project, Opening}
use Rattle.cv_model.specs.Scales.{all_scales}
use Rattle.cv_model.specs.Views.{IsView}
use Rattle.cv_model.specs.Pans.{pan_of}
use Rattle.cv_model.specs.Edits.{verdict, is_over, most_edits}
use Rattle.cv_model.specs.ProjectFiles.{capacity_of}
use Rattle.cv_event.specs.declared.entry.Act.{Act}
use Rattle.cv_event.specs.declared.entry.Act.TheVariants.{View, Start, Look, Deliver, Compose, Finish, Fail, Cancel}
use Rattle.cv_event.specs.declared.entry.Act.TheVariants.{Preview, Save}
use Rattle.cv_event.specs.declared.entry.Fate.TheVariants.{Stored, Kept}
use Rattle.cv_event.specs.States.{replay}
use Rattle.cv_event.specs.Legality.{Allows}
use Rattle.cv_event.proofs.WorkedJournals.{layer, grey, rectangle, two, two_layers, view_from, first_is_view, own}
use Rattle.cv_event.proofs.WorkedJournals.{Legal, Refused, viewed, painted, finished, again, accepted, cancelled}
use Rattle.cv_event.proofs.WorkedJournals.{half_done, no_cache, one_image, scaled, zoomed, zoomed_is_view}

-- ---- the order of a cache

-- three layers above each other
abbrev three : Project
three = record {
  background = record { r = 255; g = 255; b = 255 };
  layers = layer 3 Normal None (grey 30) true all_scales (rectangle 0 0 4 4)
      ∷ layer 2 Normal None (grey 20) true all_scales (rectangle 0 0 4 4)
      ∷ layer 1 Normal None (grey 10) true all_scales (rectangle 0 0 4 4) ∷ [];
}

abbrev canvas_of : ℕ → CanvasSpec
canvas_of cache = record { w = 4; h = 4; capacity = capacity_of 4 4 cache }

-- with room for two images
abbrev two_images : Opening
two_images = record { project = three; canvases = canvas_of 128 ∷ [] }

-- the images of 1 and 2 are there; 1 is hit, and so the image of 3 cuts that of 2
abbrev hit_and_stored : List Act
hit_and_stored = View 0 (view_from 0) ∷ Start 0 1 ∷ Look 1 0 false ∷ Deliver 1 0 Stored ∷ Look 1 1 false
    ∷ Deliver 1 1 Stored ∷ accepted (SetVisible 2 false) ∷ Start 0 2 ∷ Look 2 0 true ∷ Look 2 1 false
    ∷ Deliver 2 1 Stored ∷ accepted (SetVisible 2 true) ∷ Start 0 3 ∷ []

-- then 1 is hit again, 2 misses and cuts 3
pub hit_and_stored_legal : Legal two_images [] (View 0 (view_from 0) ∷ Start 0 1 ∷ Look 1 0 false
    ∷ Deliver 1 0 Stored ∷ Look 1 1 false ∷ Deliver 1 1 Stored ∷ accepted (SetVisible 2 false) ∷ Start 0 2
    ∷ Look 2 0 true ∷ Look 2 1 false ∷ Deliver 2 1 Stored ∷ accepted (SetVisible 2 true) ∷ Start 0 3
    ∷ Look 3 0 true ∷ Look 3 1 false ∷ Deliver 3 1 Stored ∷ Look 3 2 false ∷ [])
unfolding verdict is_over most_edits
hit_and_stored_legal = (
  (first_is_view, refl, refl),
  (
    (refl, refl, omega arith),
    (
      (refl, refl),
      (
        (refl, refl),
        (
          (refl, refl),
          (
            (refl, refl),
            (
              refl,
              (
                (refl, refl, omega arith),
                (
                  (refl, refl),
                  (
                    (refl, refl),
                    (
                      (refl, refl),
                      (
                        refl,
                        (
                          (refl, refl, omega arith),
                          (
                            (refl, refl),
                            (
                              (refl, refl),
                              ((refl, refl), ((refl, refl), tt)),
                            ),
                          ),
                        ),
                      ),
                    ),
                  ),
                ),
              ),
            ),
          ),
        ),
      ),
    ),
  ),
)

pub hit_image_cut : Refused two_images hit_and_stored (Look 3 0 false)
hit_image_cut h = absurd cc

pub older_image_hit : Refused two_images (hit_and_stored ++ Look 3 0 true ∷ []) (Look 3 1 true)
older_image_hit h = absurd cc

-- ---- two canvases

abbrev two_canvases : Opening
two_canvases = record { project = two all_scales; canvases = canvas_of 1024 ∷ canvas_of 1024 ∷ [] }

abbrev both_started : List Act
both_started = View 0 (view_from 0) ∷ View 1 (view_from 0) ∷ Start 0 1 ∷ Start 1 2 ∷ []

-- a start leaves the other canvas's job, the first job has the task, and each canvas has its own images
pub both_legal : Legal two_canvases [] (View 0 (view_from 0) ∷ View 1 (view_from 0) ∷ Start 0 1
    ∷ Start 1 2 ∷ Look 1 0 false ∷ Deliver 1 0 Stored ∷ Look 1 1 false ∷ Deliver 1 1 Stored ∷ Compose 1
    ∷ Finish 1 ∷ Look 2 0 false ∷ Deliver 2 0 Stored ∷ Look 2 1 false ∷ Deliver 2 1 Stored ∷ Compose 2
    ∷ Finish 2 ∷ Save 0 1 ∷ Save 1 2 ∷ [])
both_legal = (
  (first_is_view, refl, refl),
  (
    (first_is_view, refl, refl),
    (
      (refl, refl, omega arith),
      (
        (refl, refl, omega arith),
        (
          (refl, refl),
          (
            (refl, refl),
            (
              (refl, refl),
              (
                (refl, refl),
                (
                  refl,
                  (
                    (refl, refl),
                    (
                      (refl, refl),
                      (
                        (refl, refl),
                        (
                          (refl, refl),
                          (
                            (refl, refl),
                            (
                              refl,
                              (
                                (refl, refl),
                                (
                                  refl,
                                  (refl, tt),
                                ),
                              ),
                            ),
                          ),
                        ),
                      ),
                    ),
                  ),
                ),
              ),
            ),
          ),
        ),
      ),
    ),
  ),
)

abbrev first_done : List Act
first_done = both_started ++ Look 1 0 false ∷ Deliver 1 0 Stored ∷ Look 1 1 false ∷ Deliver 1 1 Stored
    ∷ Compose 1 ∷ Finish 1 ∷ []

abbrev both_done : List Act
both_done = first_done ++ Look 2 0 false ∷ Deliver 2 0 Stored ∷ Look 2 1 false ∷ Deliver 2 1 Stored
    ∷ Compose 2 ∷ Finish 2 ∷ []

pub second_job_first : Refused two_canvases both_started (Look 2 0 false)
second_job_first h = absurd cc

pub image_of_other_canvas : Refused two_canvases first_done (Look 2 0 true)
image_of_other_canvas h = absurd cc

pub picture_of_other_canvas : Refused two_canvases both_done (Save 1 1)
picture_of_other_canvas h = absurd cc

-- an edit of the mask takes what depends on it out of both
pub mask_of_both_legal : Legal two_canvases both_done (accepted (RemoveFeature 3 1) ∷ Start 0 3
    ∷ Look 3 0 false ∷ Deliver 3 0 Stored ∷ Look 3 1 true ∷ Start 1 4 ∷ Compose 3 ∷ Finish 3
    ∷ Look 4 0 false ∷ Deliver 4 0 Stored ∷ Look 4 1 true ∷ Compose 4 ∷ Finish 4 ∷ [])
unfolding verdict is_over most_edits
mask_of_both_legal = (
  refl,
  (
    (refl, refl, omega arith),
    (
      (refl, refl),
      (
        (refl, refl),
        (
          (refl, refl),
          (
            (refl, refl, omega arith),
            (
              refl,
              (
                (refl, refl),
                (
                  (refl, refl),
                  (
                    (refl, refl),
                    (
                      (refl, refl),
                      (
                        refl,
                        ((refl, refl), tt),
                      ),
                    ),
                  ),
                ),
              ),
            ),
          ),
        ),
      ),
    ),
  ),
)

abbrev mask_of_both : List Act
mask_of_both = both_done ++ accepted (RemoveFeature 3 1) ∷ Start 0 3 ∷ Start 1 4 ∷ []

pub first_keeps_dependent : Refused two_canvases mask_of_both (Look 3 0 true)
first_keeps_dependent h = absurd cc

pub second_keeps_dependent : Refused two_canvases (mask_of_both ++ Look 3 0 false ∷ Look 3 1 true
    ∷ []) (Look 4 0 true)
second_keeps_dependent h = absurd cc

abbrev two_images_each : Opening
two_images_each = record { project = three; canvases = canvas_of 128 ∷ canvas_of 128 ∷ [] }

-- a hit on the first canvas leaves the order on the second, where the image of 1 is cut
abbrev hit_on_first : List Act
hit_on_first = View 0 (view_from 0) ∷ View 1 (view_from 0) ∷ Start 0 1 ∷ Start 1 2 ∷ Look 1 0 false
    ∷ Deliver 1 0 Stored ∷ Look 1 1 false ∷ Deliver 1 1 Stored ∷ Look 1 2 false ∷ Look 2 0 false
    ∷ Deliver 2 0 Stored ∷ Look 2 1 false ∷ Deliver 2 1 Stored ∷ Look 2 2 false
    ∷ accepted (SetVisible 2 false) ∷ Start 0 3 ∷ Look 3 0 true ∷ Look 3 1 false
    ∷ accepted (SetVisible 1 false) ∷ Start 1 4 ∷ Look 4 0 false ∷ Deliver 4 0 Stored
    ∷ accepted (SetVisible 1 true) ∷ accepted (SetVisible 2 true) ∷ Start 1 5 ∷ []

pub hit_on_first_legal : Legal two_images_each [] (View 0 (view_from 0) ∷ View 1 (view_from 0) ∷ Start 0 1
    ∷ Start 1 2 ∷ Look 1 0 false ∷ Deliver 1 0 Stored ∷ Look 1 1 false ∷ Deliver 1 1 Stored
    ∷ Look 1 2 false ∷ Look 2 0 false ∷ Deliver 2 0 Stored ∷ Look 2 1 false ∷ Deliver 2 1 Stored
    ∷ Look 2 2 false ∷ accepted (SetVisible 2 false) ∷ Start 0 3 ∷ Look 3 0 true ∷ Look 3 1 false
    ∷ accepted (SetVisible 1 false) ∷ Start 1 4 ∷ Look 4 0 false ∷ Deliver 4 0 Stored
    ∷ accepted (SetVisible 1 true) ∷ accepted (SetVisible 2 true) ∷ Start 1 5 ∷ Look 5 0 false ∷ [])
unfolding verdict is_over most_edits
hit_on_first_legal = (
  (first_is_view, refl, refl),
  (
    (first_is_view, refl, refl),
    (
      (refl, refl, omega arith),
      (
        (refl, refl, omega arith),
        (
          (refl, refl),
          (
            (refl, refl),
            (
              (refl, refl),
              (
                (refl, refl),
                (
                  (refl, refl),
                  (
                    (refl, refl),
                    (
                      (refl, refl),
                      (
                        (refl, refl),
                        (
                          (refl, refl),
                          (
                            (refl, refl),
                            (
                              refl,
                              (
                                (refl, refl, omega arith),
                                (
                                  (refl, refl),
                                  (
                                    (refl, refl),
                                    (
                                      refl,
                                      (
                                        (refl, refl, omega arith),
                                        (
                                          (refl, refl),
                                          (
                                            (refl, refl),
                                            (
                                              refl,
                                              (
                                                refl,
                                                (
                                                  (refl, refl, omega arith),
                                                  ((refl, refl), tt),
                                                ),
                                              ),
                                            ),
                                          ),
                                        ),
                                      ),
                                    ),
                                  ),
                                ),
                              ),
                            ),
                          ),
                        ),
                      ),
                    ),
                  ),
                ),
              ),
            ),
          ),
        ),
      ),
    ),
  ),
)

pub cut_on_second : Refused two_images_each hit_on_first (Look 5 0 true)
cut_on_second h = absurd cc

pub second_of_other_order : Refused two_images_each (hit_on_first ++ Look 5 0 false ∷ []) (Look 5 1 false)
second_of_other_order h = absurd cc

-- ---- a job that is cancelled with all slots ready

pub composed_cancelled_legal : Legal two_layers viewed (Look 1 0 false ∷ Deliver 1 0 Stored
    ∷ Look 1 1 false ∷ Deliver 1 1 Stored ∷ Compose 1 ∷ Cancel 1 ∷ [])
composed_cancelled_legal = ((refl, refl), ((refl, refl), ((refl, refl), ((refl, refl), (refl, (refl, tt))))))

pub ready_cancelled_legal : Legal two_layers viewed (Look 1 0 false ∷ Deliver 1 0 Stored ∷ Look 1 1 false
    ∷ Deliver 1 1 Stored ∷ Cancel 1 ∷ [])
ready_cancelled_legal = ((refl, refl), ((refl, refl), ((refl, refl), ((refl, refl), (refl, tt)))))

pub cancelled_finished : Refused two_layers (viewed ++ painted ++ Compose 1 ∷ Cancel 1 ∷ []) (Finish 1)
cancelled_finished h = absurd cc

pub cancelled_composed : Refused two_layers (viewed ++ painted ++ Cancel 1 ∷ []) (Compose 1)
cancelled_composed h = absurd cc

-- ---- what is done once, and by whom

pub other_finisher : Allows (replay two_layers (own (viewed ++ painted ++ Compose 1 ∷ []))) 1 (Finish 1) → ⊥
other_finisher h = absurd cc

pub composed_twice : Refused two_layers (viewed ++ painted ++ Compose 1 ∷ []) (Compose 1)
composed_twice h = absurd cc

pub finished_twice : Refused two_layers finished (Finish 1)
finished_twice h = absurd cc

pub stored_twice : Refused two_layers half_done (Deliver 1 0 Stored)
stored_twice h = absurd cc

pub kept_behind_stored : Refused two_layers half_done (Deliver 1 0 Kept)
kept_behind_stored h = absurd cc

pub older_picture_saved : Refused two_layers (finished ++ again) (Save 0 1)
older_picture_saved h = absurd cc

pub finished_previewed : Refused two_layers finished (Preview 1 3)
finished_previewed h = absurd cc

pub finished_failed : Refused two_layers finished (Fail 1)
finished_failed h = absurd cc

pub cancelled_previewed : Refused two_layers cancelled (Preview 1 0)
cancelled_previewed h = absurd cc

pub cancelled_failed : Refused two_layers cancelled (Fail 1)
cancelled_failed h = absurd cc

pub start_without_view : Refused two_layers [] (Start 0 1)
start_without_view h = absurd cc

-- a view whose left edge is out of range
pub view_out_of_range : Refused two_layers [] (View 0 (view_from 4000000000000000))
view_out_of_range h =
    let low = h.0.left.0 in
    let high = h.0.left.1 in
    absurd (omega arith)

-- ---- the starts of journals at other openings, and looks that miss

half_is_view : IsView (view_from 1000000)
half_is_view = record { unit = omega arith; wide = omega arith; high = omega arith; left = (omega arith, omega arith); right = (omega arith, omega arith); top = (omega arith, omega arith); bottom = (omega arith, omega arith) }

pub first_of_one_image : Legal one_image [] (View 0 (view_from 0) ∷ Start 0 1 ∷ Look 1 0 false
    ∷ Deliver 1 0 Stored ∷ Look 1 1 false ∷ Deliver 1 1 Stored ∷ Compose 1 ∷ Finish 1 ∷ [])
first_of_one_image = (
  (first_is_view, refl, refl),
  (
    (refl, refl, omega arith),
    (
      (refl, refl),
      ((refl, refl), ((refl, refl), ((refl, refl), (refl, ((refl, refl), tt))))),
    ),
  ),
)

pub viewed_without_cache : Legal no_cache [] (View 0 (view_from 0) ∷ Start 0 1 ∷ [])
viewed_without_cache = ((first_is_view, refl, refl), ((refl, refl, omega arith), tt))

pub viewed_scaled : Legal scaled [] (View 0 (view_from 0) ∷ Start 0 1 ∷ [])
viewed_scaled = ((first_is_view, refl, refl), ((refl, refl, omega arith), tt))

pub zoom_legal : Legal two_layers finished (View 0 zoomed ∷ View 0 (view_from 0) ∷ Start 0 2
    ∷ Look 2 0 false ∷ Deliver 2 0 Stored ∷ Look 2 1 false ∷ Deliver 2 1 Stored ∷ Compose 2 ∷ Finish 2 ∷ [])
unfolding pan_of
zoom_legal = (
  (zoomed_is_view, refl, refl),
  (
    (first_is_view, refl, refl),
    (
      (refl, refl, omega arith),
      ((refl, refl), ((refl, refl), ((refl, refl), ((refl, refl), (refl, ((refl, refl), tt)))))),
    ),
  ),
)

pub half_pixel_legal : Legal two_layers finished (View 0 (view_from 1000000) ∷ View 0 (view_from 0)
    ∷ Start 0 2 ∷ Look 2 0 false ∷ Deliver 2 0 Stored ∷ Look 2 1 false ∷ Deliver 2 1 Stored ∷ Compose 2
    ∷ Finish 2 ∷ [])
unfolding pan_of
half_pixel_legal = (
  (half_is_view, refl, refl),
  (
    (first_is_view, refl, refl),
    (
      (refl, refl, omega arith),
      ((refl, refl), ((refl, refl), ((refl, refl), ((refl, refl), (refl, ((refl, refl), tt)))))),
    ),
  ),
)
