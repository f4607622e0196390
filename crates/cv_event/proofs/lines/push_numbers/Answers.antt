use Rattle.std.proofs.Common.{◌∙◌, ap, ◌++◌, decimal, w64}
use Rattle.std.specs.Fmt.{signed_decimal}
use Rattle.std.proofs.lemmas.Int.{to_z-of_z}
use Rattle.cv_event.proofs.LineLemmas.{view_joined}
use Rattle.cv_event.proofs.lines.push_numbers.Goals as goal

pub returns : goal.returns
returns c =
    let old = c.args.text.now.items in
    let left = to_z-of_z w64 c.args.left c.ranges.left in
    let top = to_z-of_z w64 c.args.top c.ranges.top in
    let unit = to_z-of_z w64 c.args.unit c.ranges.unit in
    let corner_is = rw (left, top) at c.in_ok-corner.ensures in
    let corner = c.in_ok-push_piece.ensures ∙ ap (λ xs. old ++ xs) corner_is in
    let size = rw unit at c.in_ok-size.ensures in
    c.in_ok-push_piece-2.ensures ∙ (λ i. corner i ++ size i)
    ∙ view_joined old (decimal c.args.canvas) (signed_decimal c.args.left) (signed_decimal c.args.top) (signed_decimal
    c.args.unit) (decimal c.args.size.0) (decimal c.args.size.1)
