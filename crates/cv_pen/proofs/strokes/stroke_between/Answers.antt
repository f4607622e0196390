use Rattle.std.proofs.Common.{◌≡◌, ◌∙◌, sym, refl, [], true, false, not, ◌&&◌, w64, ◌≤ℤ◌, arith}
use Rattle.std.proofs.lemmas.Int.{ints, to_z-of_z}
use Rattle.cv_model.specs.Positions.{doubled}
use Rattle.cv_model.specs.Pens.{overlaps, is_near}
use Rattle.cv_model.specs.Views.{centre_of}
use Rattle.cv_pen.specs.Strokes.{is_before, is_reached}
use Rattle.cv_pen.proofs.BetweenLemmas.{runs-alike}
use Rattle.cv_pen.proofs.SideLemmas.{meets-up, meets-none, meets-flip, overlaps-turned}
use Rattle.cv_pen.proofs.strokes.stroke_between.Goals as goal

pub returns-then-not-overlaps_upwards : goal.returns-then-not-overlaps_upwards
returns-then-not-overlaps_upwards c =
    let v = c.args.view.now in
    let a = doubled c.args.a in
    let b = doubled c.args.b in
    let r_is = to_z-of_z w64 c.args.r c.ranges.r in
    let level = rw (r_is, c.centre.ensures) at c.overlaps_upwards.ensures in
    let none : overlaps c.args.r (centre_of v 0 c.args.row).y a.y b.y ≡ false =
    sym level ∙ c.if-not-overlaps_upwards.true in
    runs-alike (λ i. false) (λ i. is_near c.args.r (centre_of v i c.args.row) (c.args.a, c.args.b)) c.args.columns.from
    c.args.columns.end [] (λ i. sym (meets-none c.args.r (centre_of v i c.args.row) a b none))
    (record { apart = tt; covered = λ i from below. refl })

pub stroke_up-requires-clause-rises : goal.stroke_up-requires-clause-rises
stroke_up-requires-clause-rises c =
    let told = c.is_upwards.ensures in
    let test = c.if-is_upwards.true in
    grind (arith, ints)

pub stroke_up-requires-else-is_upwards-clause-rises : goal.stroke_up-requires-else-is_upwards-clause-rises
stroke_up-requires-else-is_upwards-clause-rises c =
    let told = c.is_upwards.ensures in
    let test = c.if-is_upwards.false in
    grind (arith, ints)

pub returns-then-is_upwards : goal.returns-then-is_upwards
returns-then-is_upwards c =
    let v = c.args.view.now in
    let a = doubled c.args.a in
    let b = doubled c.args.b in
    let r_is = to_z-of_z w64 c.args.r c.ranges.r in
    let level = rw (r_is, c.centre.ensures) at c.overlaps_upwards.ensures in
    let there : overlaps c.args.r (centre_of v 0 c.args.row).y a.y b.y ≡ true =
    sym level ∙ c.if-not-overlaps_upwards.false in
    let told = c.is_upwards.ensures in
    let test = c.if-is_upwards.true in
    let up : c.args.a.y ≤ℤ c.args.b.y = grind (arith, ints) in
    let rises : a.y ≤ℤ b.y = omega (arith, ints) in
    let runs = rw r_is at c.stroke_up.ensures in
    runs-alike
    (λ i. not (is_before c.args.r (centre_of v i c.args.row) a b) && is_reached c.args.r (centre_of v i c.args.row) a b)
    (λ i. is_near c.args.r (centre_of v i c.args.row) (c.args.a, c.args.b)) c.args.columns.from c.args.columns.end _
    (λ i. sym (meets-up c.args.r (centre_of v i c.args.row) a b c.requires.radius.0 rises there)) runs

pub returns-else-is_upwards : goal.returns-else-is_upwards
returns-else-is_upwards c =
    let v = c.args.view.now in
    let a = doubled c.args.a in
    let b = doubled c.args.b in
    let r_is = to_z-of_z w64 c.args.r c.ranges.r in
    let level = rw (r_is, c.centre.ensures) at c.overlaps_upwards.ensures in
    let there : overlaps c.args.r (centre_of v 0 c.args.row).y a.y b.y ≡ true =
    sym level ∙ c.if-not-overlaps_upwards.false in
    let turned = overlaps-turned c.args.r (centre_of v 0 c.args.row).y a.y b.y true there in
    let told = c.is_upwards.ensures in
    let test = c.if-is_upwards.false in
    let up : c.args.b.y ≤ℤ c.args.a.y = grind (arith, ints) in
    let rises : b.y ≤ℤ a.y = omega (arith, ints) in
    let runs = rw r_is at c.stroke_up-else-is_upwards.ensures in
    runs-alike
    (λ i. not (is_before c.args.r (centre_of v i c.args.row) b a) && is_reached c.args.r (centre_of v i c.args.row) b a)
    (λ i. is_near c.args.r (centre_of v i c.args.row) (c.args.a, c.args.b)) c.args.columns.from c.args.columns.end _
    (λ i. sym
    (meets-flip c.args.r (centre_of v i c.args.row) a b
    ∙ meets-up c.args.r (centre_of v i c.args.row) b a c.requires.radius.0 rises turned)) runs
