-- A cell of one to three digits.
use Rattle.std.proofs.Common.{◌≡◌, ◌*◌, length, pos, to_z, of_z, w64, sym, ◌∙◌, arith}
use Rattle.std.proofs.lemmas.Int.{ints}
use Rattle.cv_grid.proofs.CellLemmas.{cells_short}
use Rattle.cv_grid.proofs.cells.put_short.Goals as goal

pub loop-preserved : goal.loop-preserved
loop-preserved c =
    let room : length c.loop.cells ≡ c.args.total
    → ⊥ = λ e. c.if-len-from.false (c.len.ensures ∙ e ∙ sym c.from.ensures) in
    let number = c.in-Some.number in
    let small = c.in-Some.ensures.digits.small in
    let z = to_z w64 (of_z w64 c.millionths.result) in
    let whole : to_z w64 (of_z w64 c.millionths.result) ≡ pos (1000000 * number) = omega (arith, ints) in
    let more = cells_short c.args.text.now c.args.start c.args.total c.args.void c.args.cells.now c.loop.at
    c.loop.cells _ number z c.loop.invariant room c.in-Some.ensures whole in
    rw c.in_ok-put-in-Some.ensures.ok (rw c.cell.ensures more)
