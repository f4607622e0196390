-- What was joined is the number of the token.
use Rattle.std.proofs.Common.{◌≡◌, true, get_or, arith}
use Rattle.cv_reading.specs.Space.{is_space}
use Rattle.cv_grid.proofs.WindowLemmas.{short_if}
use Rattle.cv_grid.proofs.window.short_number.Goals as goal

pub returns : goal.returns
returns c =
    let space : is_space (get_or c.args.text.now c.args.end 0) ≡ true = grind arith in
    short_if c.args.text.now c.args.at c.args.end c.digit-hundreds.result c.digit-tens.result
    c.digit-ones.result c.joined.result (omega arith) (omega arith) (omega arith) space
    c.digit-hundreds.ensures c.digit-tens.ensures c.digit-ones.ensures c.joined.ensures
