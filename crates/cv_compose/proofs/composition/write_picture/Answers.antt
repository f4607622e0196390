use Rattle.std.proofs.Common.{◌≡◌, ◌≤◌, ◌*◌, ◌∙◌, ap, sym, length, arith, rules}
use Rattle.std.proofs.lemmas.List.Edits.{length-between}
use Rattle.cv_model.specs.Paintings.{composed}
use Rattle.cv_compose.proofs.CompositionLemmas.{written_more, written_length, written_all, same_picture, length_composed}
use Rattle.cv_compose.proofs.composition.write_picture.Goals as goal

pub copy_in-requires : goal.copy_in-requires
copy_in-requires c =
    let input = c.args.input.now in
    let old = c.args.picture.now.pixels in
    let all = (composed input).pixels in
    let same : length old ≡ length all =
    c.pixels.ensures.whole ∙ ap (λ w. w * c.args.picture.now.height) c.requires.width
    ∙ ap (λ h. input.frame.width * h) c.requires.height ∙ sym (length_composed input) in
    let size : c.len-size.result ≡ length all = c.len-size.ensures ∙ ap length c.pixels.ensures.pixels ∙ same in
    let start = c.loop-start.start in
    let end = c.min-end.result in
    let order : start ≤ end = search rules in
    let most : end ≤ c.len-size.result = search rules in
    let within : end ≤ length all = omega (arith, most, size) in
    let run = ap length c.set_run.ensures ∙ length-between all start end within in
    let there = ap length c.loop-start.invariant.pixels
    ∙ written_length all old start (omega (arith, order, within)) same in
    record { within = omega (arith, run, there, order, within) }

-- the run that was written stands behind the pixels so far
pub loop-start-preserved : goal.loop-start-preserved
loop-start-preserved c =
    let input = c.args.input.now in
    let old = c.args.picture.now.pixels in
    let all = (composed input).pixels in
    let same : length old ≡ length all =
    c.pixels.ensures.whole ∙ ap (λ w. w * c.args.picture.now.height) c.requires.width
    ∙ ap (λ h. input.frame.width * h) c.requires.height ∙ sym (length_composed input) in
    let size : c.len-size.result ≡ length all = c.len-size.ensures ∙ ap length c.pixels.ensures.pixels ∙ same in
    let order : c.loop-start.start ≤ c.min-end.result = search rules in
    let most : c.min-end.result ≤ c.len-size.result = search rules in
    record {
      pixels =
          c.copy_in.ensures.pixels
          ∙ written_more all old c.loop-start.picture.pixels _ c.loop-start.start c.min-end.result order
          (omega (arith, most, size)) c.loop-start.invariant.pixels c.set_run.ensures;
      width = c.copy_in.ensures.size.0 ∙ c.loop-start.invariant.width;
      height = c.copy_in.ensures.size.1 ∙ c.loop-start.invariant.height;
      within = most;
    }

-- no run is left
pub returns : goal.returns
returns c =
    let input = c.args.input.now in
    let old = c.args.picture.now.pixels in
    let all = (composed input).pixels in
    let same : length old ≡ length all =
    c.pixels.ensures.whole ∙ ap (λ w. w * c.args.picture.now.height) c.requires.width
    ∙ ap (λ h. input.frame.width * h) c.requires.height ∙ sym (length_composed input) in
    let size : c.len-size.result ≡ length all = c.len-size.ensures ∙ ap length c.pixels.ensures.pixels ∙ same in
    let done : length all ≤ c.loop-start.start = omega (arith, c.loop-start-test.false, size) in
    same_picture c.loop-start.picture (composed input) (c.loop-start.invariant.width ∙ c.requires.width)
    (c.loop-start.invariant.height ∙ c.requires.height)
    (c.loop-start.invariant.pixels ∙ written_all all old c.loop-start.start done same)
