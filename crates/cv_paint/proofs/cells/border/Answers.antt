use Rattle.std.proofs.Common.{◌≡◌, ◌+◌, ◌*◌, ◌≤◌, arith}
use Rattle.std.proofs.Math.Nat.{mul-le-mul_right}
use Rattle.std.proofs.lemmas.Int.{ints}
use Rattle.cv_paint.proofs.cells.border.Goals as goal

pub overflow_add-result : goal.overflow_add-result
overflow_add-result c =
    let cells = c.args.cells.now in
    let same : (c.from-columns.result + 1) * c.dx.result ≡ (c.args.column + 1) * cells.dx = cc in
    let most : (c.args.column + 1) * cells.dx ≤ cells.cols * cells.dx = mul-le-mul_right cells.dx (omega (arith, c.requires)) in
    let left = c.cells-kept.ensures.kept.left in
    let right = c.cells-kept.ensures.kept.right in omega (arith, ints)

pub returns-clause-border : goal.returns-clause-border
returns-clause-border c =
    let cells = c.args.cells.now in
    let same : (c.from-columns.result + 1) * c.dx.result ≡ (c.args.column + 1) * cells.dx = cc in
    let most : (c.args.column + 1) * cells.dx ≤ cells.cols * cells.dx = mul-le-mul_right cells.dx (omega (arith, c.requires)) in
    let left = c.cells-kept.ensures.kept.left in
    let right = c.cells-kept.ensures.kept.right in omega (arith, ints)

pub returns-clause-range : goal.returns-clause-range
returns-clause-range c =
    let cells = c.args.cells.now in
    let same : (c.from-columns.result + 1) * c.dx.result ≡ (c.args.column + 1) * cells.dx = cc in
    let most : (c.args.column + 1) * cells.dx ≤ cells.cols * cells.dx = mul-le-mul_right cells.dx (omega (arith, c.requires)) in
    let left = c.cells-kept.ensures.kept.left in
    let right = c.cells-kept.ensures.kept.right in (omega (arith, ints), omega (arith, ints))
