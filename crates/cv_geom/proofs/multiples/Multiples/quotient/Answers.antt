use Rattle.std.proofs.Common.{◌≡◌, sym, ◌+◌, ◌*◌, ◌≤◌, ◌<◌, arith}
use Rattle.cv_geom.proofs.PlaceLemmas.{guess-low, guess-high, quotient-is}
use Rattle.cv_geom.proofs.multiples.Multiples.quotient.Goals as goal

pub overflow_sub-n : goal.overflow_sub-n
overflow_sub-n c =
    rw c.upper_half-guess.ensures
    (guess-low 18446744073709551616 c.args.n c.self.inside.step c.self.inside.reciprocal (omega arith)
    c.self.invariant.low)

pub returns-then-n-guess-clause-value : goal.returns-then-n-guess-clause-value
returns-then-n-guess-clause-value c =
    let q = c.upper_half-guess.result in
    let step = c.self.inside.step in
    let low = overflow_sub-n c.before in
    rw c.self.view_is at (sym (quotient-is c.args.n step q low (omega (arith, low, c.if-n-guess.true))))

pub returns-else-n-guess-clause-value : goal.returns-else-n-guess-clause-value
returns-else-n-guess-clause-value c =
    let q = c.upper_half-guess.result in
    let step = c.self.inside.step in
    let low = overflow_sub-n c.before in
    let most : c.args.n < q * step + (step + step) =
    rw c.upper_half-guess.ensures
    (guess-high 18446744073709551616 c.args.n step c.self.inside.reciprocal (omega arith) c.self.invariant.some
    (omega (arith, c.requires)) c.self.invariant.high) in
    let more : (q + 1) * step ≡ q * step + step = grind arith in
    let left : (q + 1) * step ≤ c.args.n = omega (arith, low, c.if-n-guess.false) in
    rw c.self.view_is at (sym (quotient-is c.args.n step (q + 1) left (omega arith)))
