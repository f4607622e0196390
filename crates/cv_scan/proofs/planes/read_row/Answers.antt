use Rattle.std.proofs.Common.{◌≡◌, ◌∙◌, sym, ap, ◌+◌, ◌-◌, ◌==◌, ◌<◌, arith}
use Rattle.cv_scan.specs.Planes.{bit_of, first_of, set_marks, width_of}
use Rattle.cv_scan.proofs.PlaneLemmas.{read-set, read-none}
use Rattle.cv_scan.proofs.planes.read_row.Goals as goal
use Rattle.cv_scan.proofs.planes.read_row.Goals.{then-is_set+in_ok-push, else-is_set}

pub loop-column-preserved : goal.loop-column-preserved
loop-column-preserved c =
    let area = c.args.area in
    let words = c.args.bits.now in
    let row = c.args.row in
    let column = c.loop-column.column in
    let told = c.loop-column.invariant in
    let some : area.columns.from < column = omega (arith, c.loop-column-test.true) in
    let bit : c.is_set.result ≡ (bit_of words (first_of area row + (column - 1 - area.columns.from)) == 1) =
    rw c.place_of.ensures.value at c.is_set.ensures in
    record {
      west = omega arith;
      east = omega (arith, told.east);
      read =
          elim c.if-is_set.branch [
            | then-is_set+in_ok-push w ↦
                read-set words area row column c.loop-column.marks.items c.if-is_set.marks.items
                (set_marks words area row (width_of area)) some (sym bit ∙ w.if-is_set.true)
                (ap (λ v. v.items) w.marks-is ∙ w.in_ok-push.ensures.items) told.read
            | else-is_set w ↦
                rw (ap (λ v. v.items) w.marks-is)
                (read-none words area row column c.loop-column.marks.items (set_marks words area row (width_of area)) some
                (sym bit ∙ w.if-is_set.false) told.read)
          ];
    }
