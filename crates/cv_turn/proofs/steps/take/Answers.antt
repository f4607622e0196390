use Rattle.std.proofs.Common.{◌≡◌, rules, ap, sym, ◌∙◌, ◌∷◌, Some}
use Rattle.atomic_table.specs.Table.{rest}
use Rattle.cv_turn.proofs.TurnLemmas.{looks}
use Rattle.cv_turn.proofs.steps.take.Goals as goal

pub load-served-requires : goal.load-served-requires
load-served-requires g c =
    let same = c.loop.invariant.1 in (
      search rules,
      search rules,
      looks _ _ _ _ _ _ _ _ (ap (λ m. m.0.waits) same ∙ c.requires.waits.0) (ap (λ m. m.0.inside) same ∙ c.requires.waits.2),
    )

pub exchange-requires : goal.exchange-requires
exchange-requires g c =
    let is : c.load-served.result ≡ c.loop.seat.me.0.ticket = search rules in
    let took = c.load-served.ensures.2.0 is in
    let carried = ap (λ m. m.1) took.1 in
    (search rules, (Some took.0, carried ∙ ap (λ cs. (0, Some took.0) ∷ rest cs) (sym carried)))
