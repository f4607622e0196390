use Rattle.std.proofs.Common.{◌≡◌, ◌<◌, Bool, false, List, length, ap, sym, ◌∙◌, arith}
use Rattle.cv_model.specs.Rasters.{row_of}
use Rattle.cv_canvas.specs.Cover.{is_covered_in}
use Rattle.cv_canvas.specs.Opaque.{inked}
use Rattle.cv_canvas.proofs.RowLemmas.{put_next, put_all, row_long, row_item}
use Rattle.cv_canvas.proofs.opaque.ink.Goals as goal

pub loop-i-preserved : goal.loop-i-preserved
loop-i-preserved c =
    let cover = c.args.cover.now in
    let covered : List Bool = row_of cover.width (is_covered_in cover) c.args.row in
    let long : length covered ≡ cover.width = row_long cover.width (is_covered_in cover) c.args.row in
    let inside : c.loop-i.i < cover.width = omega (arith, c.loop-i-test.true, c.width-i-end.ensures) in
    put_next (inked c.args.colour) covered c.args.into.now c.loop-i.into c.loop-i.i c.inked.result false
    (c.requires.length ∙ sym long) (omega (arith, inside, long)) c.loop-i.invariant
    (c.inked.ensures
    ∙ ap (inked c.args.colour) (c.is_covered.ensures ∙ sym (row_item cover.width (is_covered_in cover) c.args.row c.loop-i.i false inside)))

pub returns : goal.returns
returns c =
    let cover = c.args.cover.now in
    let covered : List Bool = row_of cover.width (is_covered_in cover) c.args.row in
    let long : length covered ≡ cover.width = row_long cover.width (is_covered_in cover) c.args.row in
    put_all (inked c.args.colour) covered c.args.into.now c.loop-i.into c.loop-i.i (c.requires.length ∙ sym long)
    (omega (arith, long, c.loop-i-test.false, c.width-i-end.ensures)) c.loop-i.invariant
