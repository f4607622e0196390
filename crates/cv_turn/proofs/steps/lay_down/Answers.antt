use Rattle.std.proofs.Common.{◌≡◌, ℕ, ◌<◌, ◌≤◌, List, [], ◌∷◌, ◌++◌, length, length-append, rules, arith, ap, sym, ◌∙◌, ⊎_elim}
use Rattle.cv_turn.proofs.TurnLemmas.{counts_entry, counts_none}
use Rattle.cv_turn.specs.Pass.{MayAdd}
use Rattle.cv_turn.proofs.steps.lay_down.Goals as goal

-- a list that is longer has the entry
added : {E : Type 0} (caller : E → ℕ) (number : ℕ) (before after : List E) → MayAdd caller number before after → length before < length after
    → (e : E) × (caller e ≡ number) × (after ≡ before ++ e ∷ [])
added {E} caller number before after may longer =
    ⊎_elim (λ (same : after ≡ before). let lengths = ap length same in absurd (omega arith)) (λ (h : (e : E) × (caller e ≡ number) × (after ≡ before ++ e ∷ [])). h) may

-- a list that isn't is the same
not_added : {E : Type 0} (caller : E → ℕ) (number : ℕ) (before after : List E) → MayAdd caller number before after → length after ≤ length before → after ≡ before
not_added {E} caller number before after may short =
    ⊎_elim (λ (same : after ≡ before). same)
    (λ (h : (e : E) × (caller e ≡ number) × (after ≡ before ++ e ∷ [])). let lengths = ap length h.2 ∙ length-append before (h.0 ∷ []) in absurd (omega arith)) may

pub fetch_add-requires : goal.fetch_add-requires
fetch_add-requires g c =
    let me = c.exchange.ensures.3 in
    let len = c.len-after.ensures in
    let before = c.requires.turn.1 in
    let more = c.if-before-after.true in
    let entry = added g.H.Held.caller _ _ _ c.requires.list (omega arith) in (
      search rules,
      search rules,
      counts_entry _ _ _ _ _ _ _ _ c.args.held entry.0 (ap (λ m. m.0.inside) me ∙ c.requires.turn.0.0) (search rules) (entry.1 ∙ sym (ap (λ m. m.0.first) me))
          (entry.2 ∙ sym (ap (λ m. m.0.taken ++ entry.0 ∷ []) me)) (search rules),
    )

pub load-requires : goal.load-requires
load-requires g c =
    let me = c.exchange.ensures.3 in
    let len = c.len-after.ensures in
    let before = c.requires.turn.1 in
    let less = c.if-before-after.false in
    let same = not_added g.H.Held.caller _ _ _ c.requires.list (omega arith) in (
      search rules,
      search rules,
      counts_none _ _ _ _ _ _ _ _ c.args.held (ap (λ m. m.0.inside) me ∙ c.requires.turn.0.0) (search rules) (same ∙ sym (ap (λ m. m.0.taken) me)),
    )
