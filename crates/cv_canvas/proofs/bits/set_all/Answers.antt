use Rattle.std.proofs.Common.{◌^◌, ◌-◌, length, ◌∙◌, refl}
use Rattle.std.proofs.lemmas.Simd.{splat_is_map}
use Rattle.cv_canvas.proofs.bits.set_all.Goals as goal

pub returns : goal.returns
returns c = c.fill.ensures.after (λ y same. same) ∙ splat_is_map c.args.words.now (length c.args.words.now) (2 ^ 64 - 1) refl
