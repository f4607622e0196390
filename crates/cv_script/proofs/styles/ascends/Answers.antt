use Rattle.std.proofs.Common.{◌+◌, pos, get_or, drop, w64, sym, ap, ◌∙◌, arith}
use Rattle.std.proofs.lemmas.List.{drop_more}
use mir.Val.{to_z}
use Rattle.cv_model.specs.declared.ramp.Stop.{Stop}
use Rattle.cv_script.specs.Styles.{ascends_from}
use Rattle.cv_script.proofs.StyleLemmas.{ascends_from-stops}
use Rattle.cv_script.proofs.styles.ascends.Goals as goal

pub returns-then-not-is_above : goal.returns-then-not-is_above
returns-then-not-is_above c =
    let none : Stop = record { value = pos 0; colour = record { r = 0; g = 0; b = 0; a = 0 } } in
    let rest = c.in-Some.rest.now in
    let at = c.loop-stop.stop-index in
    let last = to_z w64 c.loop-stop.last-bits in
    sym (ascends_from-stops last (get_or rest at none) (drop (at + 1) rest) (sym c.is_above.ensures
    ∙ c.if-not-is_above.true))
    ∙ ap (ascends_from last) (sym (drop_more rest at none (omega arith)))
    ∙ c.loop-stop.invariant
