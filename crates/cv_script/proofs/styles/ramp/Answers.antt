use Rattle.std.proofs.Common.{sym, ap, ◌∙◌}
use Rattle.cv_script.specs.Styles.{are_stops}
use Rattle.cv_script.proofs.StyleLemmas.{are_stops-IsRamp}
use Rattle.cv_script.proofs.styles.ramp.Goals as goal

pub of-requires : goal.of-requires
of-requires c =
    are_stops-IsRamp c.in_ok-kind.kind c.in_ok-stops.stops
    (sym (c.are_stops.ensures ∙ ap are_stops c.as_slice-2.ensures) ∙ c.if-are_stops.true)
    c.in_ok-stops.ensures.kept
