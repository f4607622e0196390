use Rattle.std.proofs.Common.{◌≡◌, ◌<◌, Some, rules, sym, ◌∙◌, subst}
use Rattle.std.specs.Prelude.{All}
use Rattle.std.specs.Option.{IsSome}
use Rattle.cv_turn.specs.Plays.{IsTrueOf}
use Rattle.cv_turn.proofs.CloseLemmas.{closes}
use Rattle.cv_turn.proofs.steps.take_out.Goals as goal

same_some : {A : Type 0} {x y : A} → Some x ≡ Some y → x ≡ y
same_some e = cc

pub unwrap-requires : goal.unwrap-requires
unwrap-requires g c =
    let last = closes g.H.Held.fixed g.H.Held.entries g.H.Held.caller _ _ _ _ _ _ _ c.requires.idle.0.1 c.requires.idle.1 c.requires.whole c.close_with-closed.ensures.values.2 c.take-held.ensures.value in
    subst IsSome (sym last.here) (search rules)

pub returns-clause-value : goal.returns-clause-value
returns-clause-value g c =
    let last = closes g.H.Held.fixed g.H.Held.entries g.H.Held.caller _ _ _ _ _ _ _ c.requires.idle.0.1 c.requires.idle.1 c.requires.whole c.close_with-closed.ensures.values.2 c.take-held.ensures.value in
    subst (IsTrueOf g.H.Held.fixed g.H.Held.entries g.H.Held.caller c.args.seat.me.0) (same_some (sym last.here ∙ c.unwrap.ensures)) last.is_true

pub returns-clause-first : goal.returns-clause-first
returns-clause-first g c =
    let last = closes g.H.Held.fixed g.H.Held.entries g.H.Held.caller _ _ _ _ _ _ _ c.requires.idle.0.1 c.requires.idle.1 c.requires.whole c.close_with-closed.ensures.values.2 c.take-held.ensures.value in
    last.first

pub returns-clause-named : goal.returns-clause-named
returns-clause-named g c =
    let last = closes g.H.Held.fixed g.H.Held.entries g.H.Held.caller _ _ _ _ _ _ _ c.requires.idle.0.1 c.requires.idle.1 c.requires.whole c.close_with-closed.ensures.values.2 c.take-held.ensures.value in
    subst (λ h. All (λ e. g.H.Held.caller e < c.args.base.shared.key.callers) (g.H.Held.entries h)) (same_some (sym last.here ∙ c.unwrap.ensures)) last.named
