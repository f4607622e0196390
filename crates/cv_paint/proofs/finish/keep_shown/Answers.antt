use Rattle.std.proofs.Common.{◌≡◌, ◌<◌, ◌∙◌, ap, sym, false, Bool, List, ℕ, add-one, length, set, get_or, take, arith}
use Rattle.std.proofs.lemmas.List.{take_all}
use Rattle.cv_model.specs.declared.colour.Rgba.{Rgba}
use Rattle.cv_model.specs.Colours.{transparent}
use Rattle.cv_model.specs.Rasters.{row_of}
use Rattle.cv_canvas.specs.Cover.{is_covered_in}
use Rattle.cv_canvas.proofs.RowLemmas.{row_long, row_item}
use Rattle.cv_paint.specs.Finish.{kept, shown}
use Rattle.cv_paint.proofs.MaskLemmas.{kept_more}
use Rattle.cv_paint.proofs.finish.keep_shown.Goals as goal

pub loop-i-preserved : goal.loop-i-preserved
loop-i-preserved c =
    let cover = c.args.cover.now in
    let covered : List Bool = row_of cover.width (is_covered_in cover) c.args.j in
    let long : length covered ≡ cover.width = row_long cover.width (is_covered_in cover) c.args.j in
    let inside : c.loop-i.i < cover.width = omega (arith, c.loop-i-test.true, c.width-i-end.ensures) in
    ap (λ (v : Rgba). set c.loop-i.row c.loop-i.i v) c.shown.ensures
    ∙ ap (λ (b : Bool). set c.loop-i.row c.loop-i.i (shown b (get_or c.loop-i.row c.loop-i.i transparent)))
    (c.is_covered.ensures ∙ sym (row_item cover.width (is_covered_in cover) c.args.j c.loop-i.i false inside))
    ∙ ap (λ (ys : List Rgba). set ys c.loop-i.i (shown (get_or covered c.loop-i.i false)
    (get_or ys c.loop-i.i transparent))) c.loop-i.invariant
    ∙ kept_more covered c.args.row.now c.loop-i.i false transparent (omega (arith, inside, long))
    (omega (arith, inside, c.requires.length))
    ∙ ap (λ (n : ℕ). kept (take n covered) c.args.row.now) (sym (add-one c.loop-i.i))

pub returns : goal.returns
returns c =
    let cover = c.args.cover.now in
    let covered : List Bool = row_of cover.width (is_covered_in cover) c.args.j in
    let long : length covered ≡ cover.width = row_long cover.width (is_covered_in cover) c.args.j in
    c.loop-i.invariant
    ∙ ap (λ (bs : List Bool). kept bs c.args.row.now)
    (take_all c.loop-i.i covered (omega (arith, long, c.loop-i-test.false, c.width-i-end.ensures)))
