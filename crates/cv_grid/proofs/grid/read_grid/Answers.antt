-- Each exit is the one of the answer.
use Rattle.std.proofs.Common.{◌≡◌, Ok, Err, ℤ, to_z, of_z, w64, sym, ap, ◌∙◌, arith}
use Rattle.std.proofs.lemmas.Int.{ints}
use Rattle.cv_model.specs.Grids.{CellGrid}
use Rattle.cv_grid.proofs.ScanLemmas.{tokens_at}
use Rattle.cv_grid.proofs.LayoutLemmas.{is_grid_of}
use Rattle.cv_grid.proofs.AnswerLemmas.{at_header, at_layout, at_size, at_cells}
use Rattle.cv_grid.proofs.grid.read_grid.Goals as goal

pub returns-in-Err : goal.returns-in-Err
returns-in-Err c = λ other. at_header c.args.room c.args.text.now c.in-Err.refusal c.in-Err.ensures.err

pub returns-in-Err-of : goal.returns-in-Err-of
returns-in-Err-of c = λ other.
    let h = c.in-Ok.header in let text = c.args.text.now in
    sym (at_layout c.args.room text h.said (tokens_at text h.end) (Err c.in-Err-of.word) c.in-Ok.ensures.ok
    c.in-Err-of.ensures.value)

pub returns-then-is_large : goal.returns-then-is_large
returns-then-is_large c = λ other.
    let h = c.in-Ok.header in let text = c.args.text.now in
    sym (at_size c.args.room text h.said (tokens_at text h.end) c.in-Ok-of.layout _ c.in-Ok.ensures.ok
    c.in-Ok-of.ensures.value c.if-is_large.ensures)

pub returns-in-Err-read_cells : goal.returns-in-Err-read_cells
returns-in-Err-read_cells c = λ other.
    let h = c.in-Ok.header in let text = c.args.text.now in
    sym
    (at_cells c.args.room text h.said (tokens_at text h.end) c.in-Ok-of.layout c.cells-total.result
    c.void_number-void.result (Err c.in-Err-read_cells.refusal) c.in-Ok.ensures.ok
    c.in-Ok-of.ensures.value c.if-is_large.ensures c.cells-total.ensures c.void_number-void.ensures
    (c.in-Err-read_cells.ensures.err (λ e. other (ap Err e))))

pub of-requires-2 : goal.of-requires-2
of-requires-2 c =
    let l = c.in-Ok-of.layout in
    let left_in = c.in-Ok-of.ensures.range.left_in in
    let bottom_in = c.in-Ok-of.ensures.range.bottom_in in
    let left : to_z w64 (of_z w64 l.left2) ≡ l.left2 = omega (arith, ints) in
    let bottom : to_z w64 (of_z w64 l.bottom2) ≡ l.bottom2 = omega (arith, ints) in
    is_grid_of c.args.room l c.in-Ok-read_cells.cells (to_z w64 (of_z w64 l.left2))
    (to_z w64 (of_z w64 l.bottom2)) c.in-Ok-of.ensures.range (sym c.if-is_large.ensures)
    (c.in-Ok-read_cells.ensures.whole ∙ c.cells-total.ensures) left bottom

pub returns : goal.returns
returns c = λ other.
    let h = c.in-Ok.header in let text = c.args.text.now in let l = c.in-Ok-of.layout in
    let left_in = c.in-Ok-of.ensures.range.left_in in
    let bottom_in = c.in-Ok-of.ensures.range.bottom_in in
    let left : to_z w64 (of_z w64 l.left2) ≡ l.left2 = omega (arith, ints) in
    let bottom : to_z w64 (of_z w64 l.bottom2) ≡ l.bottom2 = omega (arith, ints) in
    let made = λ (x y : ℤ). let g : CellGrid =
    record {
      cols = l.cols;
      rows = l.rows;
      left2 = x;
      bottom2 = y;
      dx = l.dx;
      dy = l.dy;
      cells =
          c.in-Ok-read_cells.cells;
    } in g in
    ap Ok (c.of-2.ensures ∙ ap (λ x. made x (to_z w64 (of_z w64 l.bottom2))) left ∙ ap (made l.left2) bottom)
    ∙ sym
    (at_cells c.args.room text h.said (tokens_at text h.end) l c.cells-total.result
    c.void_number-void.result (Ok c.in-Ok-read_cells.cells) c.in-Ok.ensures.ok
    c.in-Ok-of.ensures.value c.if-is_large.ensures c.cells-total.ensures c.void_number-void.ensures
    c.in-Ok-read_cells.ensures.ok)
