use Rattle.std.proofs.Common.{◌≡◌, true, sym, ap, ◌∙◌}
use Rattle.cv_project.specs.Styles.{ascends}
use Rattle.cv_project.proofs.StyleLemmas.{ascends-Ascends}
use Rattle.cv_project.proofs.style.ramp.Goals as goal

pub of-requires : goal.of-requires
of-requires c =
    let passes : c.ascends.result ≡ true = c.in_ok-tested.ensures.held in
    record {
      least = c.in_ok-stops.ensures.kept.1;
      most = c.in_ok-stops.ensures.kept.2;
      in_range = c.in_ok-stops.ensures.kept.0;
      ascends = ascends-Ascends c.in_ok-stops.stops (sym (c.ascends.ensures
          ∙ ap ascends c.as_slice.ensures) ∙ passes);
    }
