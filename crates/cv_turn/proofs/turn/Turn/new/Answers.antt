use Rattle.std.proofs.Common.{◌≡◌, List, [], ◌∷◌, Option, Some, rules, subst}
use Rattle.atomic_table.specs.Table.{opening}
use Rattle.cv_turn.specs.View.{newcomer}
use Rattle.cv_turn.specs.Rule.{Kept}
use Rattle.cv_turn.proofs.CloseLemmas.{opens}
use Rattle.cv_turn.proofs.turn.Turn.new.Goals as goal

pub new-requires : goal.new-requires
new-requires g c =
    let one : Some c.args.held ∷ [] ≡ c.push.new.self.items = search rules in
    let same : c.args.held ≡ c.of.result.value = search rules in
    let kept = opens g.H.Held.fixed g.H.Held.entries g.H.Held.caller c.args.held c.args.callers c.requires.callers.1 c.requires.empty in
    subst
    (λ (z : g.row.H.Denot × List (Option g.row.H.Denot)).
    Kept g.H.Held.fixed g.H.Held.entries g.H.Held.caller (g.H.Held.fixed z.0) c.args.callers
    (opening (0 ∷ 0 ∷ 0 ∷ []) z.1 (newcomer (g.H.Held.fixed z.0) c.args.callers)))
    (λ i. (same i, one i)) kept
