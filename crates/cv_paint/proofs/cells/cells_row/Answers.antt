use Rattle.std.proofs.Common.{◌≡◌, ◌≤◌, ◌*◌, ℕ, Option, true, false, to_z, of_z, w64, FitsSigned, rules, ◌&&◌, nat_le, nat_lt, ap, sym, ◌∙◌, ⊎_elim, arith}
use Rattle.std.proofs.lemmas.Bool.{cases_lt}
use Rattle.std.proofs.lemmas.Bool.Decides.{nat_tests}
use Rattle.std.proofs.lemmas.Int.{to_z-of_z}
use Rattle.std.proofs.lemmas.List.FromFn.{fill_by_all}
use Rattle.cv_model.specs.Colours.{transparent}
use Rattle.cv_model.specs.Grids.{step_at}
use Rattle.cv_model.specs.Positions.{Position}
use Rattle.cv_model.specs.Views.{PixelGrid, centre_of}
use Rattle.cv_paint.specs.Cells.{cell_pixel, cell_between, colour_by, column_under}
use Rattle.cv_paint.proofs.CellLemmas.{row_pixel, together_coloured}
use Rattle.cv_paint.proofs.cells.cells_row.Goals as goal

-- the run of pixels has the colour of the cell at its first one
run_coloured : (c : goal.After-row-1) → c.colour_by.result
    ≡ cell_pixel c.args.style.now c.args.cells.now c.args.view.now c.loop-i.i c.args.j
run_coloured c =
    let style = c.args.style.now in
    let cells = c.args.cells.now in
    let view = c.args.view.now in
    let x_fits : FitsSigned w64 c.x.inside.x = search rules in
    let y_fits : FitsSigned w64 c.row_at.inside.y = search rules in
    let x_is : to_z w64 (of_z w64 c.x.inside.x) ≡ (centre_of view c.loop-i.i 0).x =
    to_z-of_z w64 c.x.inside.x x_fits ∙ ap (λ (p : Position). p.x) (c.x.view_is ∙ c.centre-in-loop-i.ensures) in
    let y_is : to_z w64 (of_z w64 c.row_at.inside.y) ≡ (centre_of view 0 c.args.j).y =
    to_z-of_z w64 c.row_at.inside.y y_fits ∙ ap (λ (p : Position). p.y) (c.row_at.view_is ∙ c.centre.ensures) in
    let column = c.column_at-column.ensures.column ∙ ap (step_at cells.left2 (2 * cells.dx) cells.cols) x_is in
    let row = c.row_at-line.ensures.row ∙ ap (step_at cells.bottom2 (2 * cells.dy) cells.rows) y_is in
    c.colour_by.ensures ∙ ap (colour_by style) c.cell_between.ensures
    ∙ ap (λ (k : Option ℕ). colour_by style (cell_between cells k c.row_at-line.result)) column
    ∙ ap (λ (k : Option ℕ). colour_by style (cell_between cells (column_under cells view c.loop-i.i) k)) row
    ∙ sym (row_pixel style cells view c.loop-i.i c.args.j)

pub loop-i-preserved : goal.loop-i-preserved
loop-i-preserved c = record {
  within = c.together-end.ensures.within;
  length_is = c.put_colour.ensures.length ∙ c.loop-i.invariant.length_is;
  colours = λ k below.
      c.put_colour.ensures.colours k
      ∙ ⊎_elim (λ before.
      let t : (nat_le c.loop-i.i k && nat_lt k c.together-end.result) ≡ false = grind (arith, nat_tests) in
      simp t (c.loop-i.invariant.colours k before))
      (λ from.
      let t : (nat_le c.loop-i.i k && nat_lt k c.together-end.result) ≡ true = grind (arith, nat_tests) in
      simp t (run_coloured c
      ∙ sym (together_coloured c.args.style.now c.args.cells.now c.args.view.now c.loop-i.i c.together-end.result k
      c.args.j c.together-end.ensures from below)))
      (cases_lt k c.loop-i.i);
}

pub returns : goal.returns
returns c =
    let view = c.args.view.now in
    let all : view.w ≤ c.loop-i.i = omega (arith, ap (λ (v : PixelGrid). v.w) c.view.view_is) in
    fill_by_all (λ i. cell_pixel c.args.style.now c.args.cells.now view i c.args.j) c.loop-i.row view.w transparent
    c.loop-i.invariant.length_is
    (λ k below. c.loop-i.invariant.colours k (omega (arith, all, below)))
