-- The slots and their images are what a composition keeps, and they make the picture.
use Rattle.cv_store.specs.Stores.{project_of}
use Rattle.cv_map.proofs.PictureLemmas.{frame_is, can_compose, composes}
use Rattle.cv_map.proofs.picture.compose_input.Goals as goal

pub of-requires : goal.of-requires
of-requires c =
    let s = project_of c.args.store.now in
    can_compose s c.args.view.now c.of-frame.result c.in_ok-slots.layers
    (frame_is s c.args.view.now (record { lx2 = c.view.inside.lx2; ty2 = c.view.inside.ty2; u = c.view.inside.u; w = c.view.inside.w; h = c.view.inside.h })
    c.background.result c.in_ok-slots.slots c.of-frame.result c.of-frame.ensures
    c.view.view_is c.background.ensures c.in_ok-slots.ensures.slots)
    c.in_ok-slots.ensures.layers

pub returns : goal.returns
returns c =
    let s = project_of c.args.store.now in
    composes s c.args.view.now c.of-frame.result c.in_ok-slots.layers
    (frame_is s c.args.view.now (record { lx2 = c.view.inside.lx2; ty2 = c.view.inside.ty2; u = c.view.inside.u; w = c.view.inside.w; h = c.view.inside.h })
    c.background.result c.in_ok-slots.slots c.of-frame.result c.of-frame.ensures
    c.view.view_is c.background.ensures c.in_ok-slots.ensures.slots)
    c.in_ok-slots.ensures.layers c.of.result c.of.ensures
