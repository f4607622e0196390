use Rattle.std.proofs.Common.{◌≡◌, ◌-◌, ap, ◌∙◌, length, replicate, rules}
use Rattle.std.proofs.lemmas.Slice.Zip.{AllZip-long}
use Rattle.cv_model.specs.declared.colour.Rgb.{Rgb}
use Rattle.cv_model.specs.Paintings.{FrameParts}
use Rattle.cv_compose.specs.Inputs.{IsSlotPainting}
use Rattle.cv_compose.proofs.CompositionLemmas.{run_composed, background_run, has_pixels}
use Rattle.cv_compose.proofs.composition.set_run.Goals as goal

pub merge_slots-requires-clause-places : goal.merge_slots-requires-clause-places
merge_slots-requires-clause-places c =
    let kept = c.frame-frame.ensures.kept in
    let slots_are = c.as_slice.ensures ∙ c.slots.ensures ∙ ap (λ (f : FrameParts). f.slots) c.frame-frame.ensures.frame in
    rw (slots_are, c.as_slice-layers.ensures, c.layers.ensures)
    (AllZip-long (IsSlotPainting kept.view) c.args.input.now.frame.slots c.args.input.now.paintings kept.slots)

pub merge_slots-requires-clause-pixels : goal.merge_slots-requires-clause-pixels
merge_slots-requires-clause-pixels c =
    let kept = c.frame-frame.ensures.kept in
    rw (c.as_slice-layers.ensures, c.layers.ensures)
    (has_pixels kept.view c.args.end (rw (kept.width, kept.height) c.requires.within) c.args.input.now.frame.slots
    c.args.input.now.paintings kept.slots)

-- the planes begin with the background, and the slots are merged onto it
pub returns : goal.returns
returns c =
    let input = c.args.input.now in
    let frame_is = c.frame-frame.ensures.frame in
    let kept = c.frame-frame.ensures.kept in
    let slots_are = c.as_slice.ensures ∙ c.slots.ensures ∙ ap (λ (f : FrameParts). f.slots) frame_is in
    let layers_are = c.as_slice-layers.ensures ∙ c.layers.ensures in
    let colour_is = c.background-background.ensures ∙ ap (λ (f : FrameParts). f.background) frame_is in
    let n = c.args.end - c.args.start in
    let r_len : length c.fill.new.plane ≡ n = search rules in
    let g_len : length c.fill-2.new.plane ≡ n = search rules in
    let b_len : length c.fill-3.new.plane ≡ n = search rules in
    let red = c.fill.ensures ∙ ap (λ m. replicate m c.background-background.result.r) r_len
    ∙ ap (λ (x : Rgb). replicate n x.r) colour_is in
    let green = c.fill-2.ensures ∙ ap (λ m. replicate m c.background-background.result.g) g_len
    ∙ ap (λ (x : Rgb). replicate n x.g) colour_is in
    let blue = c.fill-3.ensures ∙ ap (λ m. replicate m c.background-background.result.b) b_len
    ∙ ap (λ (x : Rgb). replicate n x.b) colour_is in
    let below = background_run input.frame.background input.frame.width input.frame.height c.args.start c.args.end
    c.requires.within c.fill.new.plane c.fill-2.new.plane c.fill-3.new.plane red green blue in
    let merged = rw (slots_are, layers_are) at c.merge_slots.ensures in
    rw (merged ∙ run_composed input kept c.args.start c.args.end _ below) at c.set_colours.ensures
