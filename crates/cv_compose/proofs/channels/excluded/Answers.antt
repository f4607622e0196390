use Rattle.std.proofs.Common.{◌≡◌, ◌+◌, ◌-◌, ◌*◌, ◌≤◌, ℕ, ap, arith}
use Rattle.cv_compose.proofs.channels.excluded.Goals as goal

-- the two parts of an exclusion, and the sum less twice the product
excluded_is : (b s : ℕ) → b ≤ 255 → s ≤ 255 → b * (255 - s) + s * (255 - b) ≡ 255 * (b + s) - 2 * (b * s)
excluded_is b s most_b most_s =
    let e : (255 - s) + s ≡ 255 = omega arith in
    let f : (255 - b) + b ≡ 255 = omega arith in
    let x = ap (λ z. b * z) e in
    let y = ap (λ z. s * z) f in
    omega (arith, x, y)

pub returns-clause-value : goal.returns-clause-value
returns-clause-value c =
    let b = c.from-cb.ensures in
    let s = c.from-cs.ensures in
    let fits_b = c.ranges.cb.fits in
    let fits_s = c.ranges.cs.fits in
    rw b (rw s (excluded_is c.args.cb c.args.cs (omega arith) (omega arith)))
