use Rattle.std.proofs.Common.{rules, ap, sym, ◌∙◌}
use Rattle.cv_turn.proofs.TurnLemmas.{serves}
use Rattle.cv_turn.proofs.steps.put_back.Goals as goal

pub fetch_add-served-requires : goal.fetch_add-served-requires
fetch_add-served-requires g c =
    let me = c.lay_down-after.ensures.after in (
      search rules,
      search rules,
      serves _ _ _ _ _ _ _ _ c.args.held (ap (λ m. m.0.inside) me ∙ c.requires.turn.0.0) (ap (λ m. m.1) me) (ap (λ m. m.0.fixed) me ∙ c.requires.fixed) (sym (ap (λ m. m.0.taken) me)),
    )
