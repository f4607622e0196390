use Rattle.std.proofs.Common.{◌≡◌, ◌∙◌, sym, ap, ◌/◌, ◌%◌, ◌==◌, true, Some, None, ℕ, ℤ, pos, neg_ℤ, if◌then◌else◌, unsigned_abs, w64, int_lt}
use Rattle.std.proofs.lemmas.Int.{to_z-of_z}
use Rattle.cv_model.specs.Pans.{whole_steps}
use Rattle.cv_model.proofs.pans.whole_steps.Goals as goal

-- a way back that steps fill
steps_back : (length : ℕ) (way : ℤ) → int_lt way (pos 0) ≡ true → unsigned_abs way % length ≡ 0
    → whole_steps length way ≡ Some (neg_ℤ (pos (unsigned_abs way / length)))
steps_back length way below filled =
    let steps = unsigned_abs way / length in
    λ i. if filled i == 0 then (if below i then Some (neg_ℤ (pos steps)) else Some (pos steps)) else None

pub returns-then-way-lt0 : goal.returns-then-way-lt0
returns-then-way-lt0 c =
    let way = to_z-of_z w64 c.args.way c.ranges.way in
    let below = ap (λ z. int_lt z (pos 0)) (sym way) ∙ c.if-way-lt0.true in
    let filled = ap (λ z. unsigned_abs z % c.args.length) (sym way) ∙ ap (λ n. n % c.args.length) (sym c.unsigned_abs.ensures.value) ∙ c.if-unsigned_abs-length-ne0.false in
    let steps = ap (λ n. neg_ℤ (pos (n / c.args.length))) (c.unsigned_abs-2.ensures.value ∙ ap unsigned_abs way) in
    ap Some (to_z-of_z w64 c.back.result (record { sfits = c.back.type_inv }) ∙ c.back.ensures ∙ steps)
    ∙ sym (steps_back c.args.length c.args.way below filled)
