use Rattle.std.proofs.Common.{◌≡◌, pos, ◌+ℤ◌, ◌-ℤ◌, w64, FitsSigned, rules, arith}
use Rattle.std.specs.Int.{int_max, int_min}
use Rattle.std.proofs.lemmas.Int.{to_z-of_z}
use Rattle.cv_model.specs.Positions.{doubled}
use Rattle.cv_pen.proofs.RowLemmas.{columns-out, parted}
use Rattle.cv_pen.proofs.boxes.columns_by.Goals as goal

pub returns-clause-outside : goal.returns-clause-outside
returns-clause-outside c = λ k west east outside.
    let a = doubled c.args.a in
    let b = doubled c.args.b in
    let behind : c.place_behind.result ≡ int_max a.x b.x +ℤ c.args.r +ℤ pos 1 = search rules in
    let before : c.place_before.result ≡ int_min a.x b.x -ℤ c.args.r = search rules in
    let behind_fits : FitsSigned w64 c.place_behind.result = search rules in
    let before_fits : FitsSigned w64 c.place_before.result = search rules in
    let behind_is = to_z-of_z w64 c.place_behind.result behind_fits in
    let before_is = to_z-of_z w64 c.place_before.result before_fits in
    columns-out c.args.view.now c.args.r a.x b.x c.place_behind.result c.place_before.result
    c.column_from-first.result c.column_from-end.result k behind before (rw before_is at c.column_from-first.ensures)
    (rw behind_is at c.column_from-end.ensures) (omega (arith, c.requires.within))
    (parted c.args.columns.from c.args.columns.end c.kept.result.from c.kept.result.end c.column_from-first.result
    c.column_from-end.result k c.kept.ensures.before c.kept.ensures.behind west east outside)
