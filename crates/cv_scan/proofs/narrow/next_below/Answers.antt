use Rattle.std.proofs.Common.{◌≡◌, ◌-ℤ◌, ◌<ℤ◌, pos, to_z, of_z, w64, arith}
use Rattle.std.proofs.lemmas.Int.{ints}
use Rattle.cv_scan.specs.Narrow.{wide_place, wide_slope}
use Rattle.cv_scan.proofs.TermLemmas.{place-below, place-beyond, less-is, not-below}
use Rattle.cv_scan.proofs.narrow.next_below.Goals as goal

pub returns-then-over-lt0-clause-place : goal.returns-then-over-lt0-clause-place
returns-then-over-lt0-clause-place c = λ v a b row unit steep is.
    let over = c.requires.over in
    let part = c.requires.part in
    let whole = c.requires.whole in
    let near = c.requires.near in
    let few = c.requires.few in
    let left : to_z w64 (of_z w64 (to_z w64 (of_z w64 c.args.place.over) -ℤ to_z w64 (of_z w64 c.args.slope.now.part))) ≡ c.args.place.over -ℤ c.args.slope.now.part =
    omega (arith, ints) in
    let under : (c.args.place.over -ℤ c.args.slope.now.part) <ℤ pos 0 =
    less-is (c.args.place.over -ℤ c.args.slope.now.part) (pos 0) (rw left at c.if-over-lt0.true) in
    place-beyond v a b row (wide_slope c.args.slope.now) (wide_place c.args.place) _ _ unit steep is (omega (arith, ints)) (omega (arith, ints))
    under

pub returns-else-over-lt0-clause-place : goal.returns-else-over-lt0-clause-place
returns-else-over-lt0-clause-place c = λ v a b row unit steep is.
    let over = c.requires.over in
    let part = c.requires.part in
    let near = c.requires.near in
    let few = c.requires.few in
    place-below v a b row (wide_slope c.args.slope.now) (wide_place c.args.place) _ _ unit steep is (omega (arith, ints)) (omega (arith, ints))
    (not-below _ c.if-over-lt0.false)
