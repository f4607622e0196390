use Rattle.std.proofs.Common.{sym, subst, ◌∙◌, ℤ, ◌<ℤ◌, ◌≤ℤ◌, pos, w64, FitsSigned, rules, arith}
use Rattle.std.proofs.lemmas.Int.{ints, to_z-of_z}
use Rattle.cv_model.specs.Views.{PixelGrid}
use Rattle.cv_paint.specs.Cells.{LieTogether}
use Rattle.cv_paint.proofs.CellLemmas.{together_in, together_before, together_behind}
use Rattle.cv_paint.proofs.cells.together.Goals as goal

pub returns-in-Some : goal.returns-in-Some
returns-in-Some c =
    let unit : pos 1 ≤ℤ c.args.view.now.u = subst (λ (v : PixelGrid). pos 1 ≤ℤ v.u) c.view.view_is c.view.invariant.unit in
    let fits : FitsSigned w64 c.border.result = search rules in
    together_in c.args.cells.now c.args.view.now c.args.i c.column_from.result c.in-Some.column c.border.result unit
    c.cells-kept.ensures.kept.step_east c.requires.view (sym c.in-Some.is ∙ c.requires.column) c.border.ensures.border
    (rw (to_z-of_z w64 c.border.result fits) at c.column_from.ensures)

pub returns-then-x-left2 : goal.returns-then-x-left2
returns-then-x-left2 c =
    let view = c.args.view.now in
    let cells = c.args.cells.now in
    let unit : pos 1 ≤ℤ view.u = subst (λ (v : PixelGrid). pos 1 ≤ℤ v.u) c.view.view_is c.view.invariant.unit in
    let left : c.args.x <ℤ cells.left2 = grind (arith, ints, c.if-x-left2.true, c.left2.ensures) in
    let fits : FitsSigned w64 c.left2-then-x-left2.result = search rules in
    together_before cells view c.args.i c.column_from-then-x-left2.result c.left2-then-x-left2.result unit
    c.requires.view (subst (λ (z : ℤ). z <ℤ cells.left2) c.requires.centre left) c.left2-then-x-left2.ensures
    (rw (to_z-of_z w64 c.left2-then-x-left2.result fits) at c.column_from-then-x-left2.ensures)

pub returns : goal.returns
returns c =
    let view = c.args.view.now in
    let cells = c.args.cells.now in
    let unit : pos 1 ≤ℤ view.u = subst (λ (v : PixelGrid). pos 1 ≤ℤ v.u) c.view.view_is c.view.invariant.unit in
    let right : cells.left2 ≤ℤ c.args.x = grind (arith, ints, c.if-x-left2.false, c.left2.ensures) in
    subst (λ (v : PixelGrid). LieTogether cells view c.args.i v.w) (sym c.view.view_is)
    (together_behind cells view c.args.i unit c.cells-kept.ensures.kept.step_east c.requires.view
    (sym c.in_default.is ∙ c.requires.column) (subst (λ (z : ℤ). cells.left2 ≤ℤ z) c.requires.centre right))
