-- The table as it is made, and as it is closed.
use Rattle.std.proofs.Common.{◌≡◌, ℕ, zero, suc, ◌<◌, ◌≤◌, List, [], ◌∷◌, refl, sym, ap, ◌∙◌, subst, inl, inr, ⊎_elim, arith, false, Some}
use Rattle.std.specs.Prelude.{Option, All}
use mathlib.Core.Option as m
use mathlib.Core.Option.{some-injective, some-ne-none}
use lib.ListN.{get_elem?}
use Rattle.atomic_table.specs.Table.{opening, Final, Seen}
use Rattle.cv_turn.specs.declared.view.View.{View}
use Rattle.cv_turn.specs.Held.{StartsWith, own_of}
use Rattle.cv_turn.specs.View.{newcomer}
use Rattle.cv_turn.specs.Plays.{IsTrueOf}
use Rattle.cv_turn.specs.Rule.{count_of, Sits, Owns, IsHome, IsOut, Kept}
use Rattle.cv_turn.proofs.HeldLemmas.{own_of-nil}
use Rattle.cv_turn.proofs.TicketLemmas.{off, two_le_total}
use Rattle.cv_turn.proofs.PlaceLemmas.{fit, fit_inside}

module _ {H F E : Type 0} (fixed : H → F) (entries : H → List E) (caller : E → ℕ) where
  -- the one view of a new table
  alone : (w v : View F E) (id : ℕ) → Sits (w ∷ []) id v → (id ≡ 0) × (w ≡ v)
  alone w v zero e = (refl, some-injective w v e)
  alone w v (suc id) e = absurd (some-ne-none v (sym e))

  -- the table at the start, with no entry and all numbers in one seat
  pub opens : (value : H) (callers : ℕ) → callers ≤ 64 → entries value ≡ []
      → Kept fixed entries caller (fixed value) callers (opening (0 ∷ 0 ∷ 0 ∷ []) (Some value ∷ []) (newcomer (fixed value) callers))
  opens value callers few empty =
      let w : View F E = newcomer (fixed value) callers in
      record {
        log = [];
        served = 0;
        out = 0;
        words = refl;
        fits = (omega arith, omega arith, few);
        each = λ id v at. inr (subst (λ (z : View F E). Rattle.cv_turn.specs.Rule.Fits caller (fixed value) callers [] 0 0 z) (alone w v id at).1 (record {
          known = refl;
          seen = ([], refl);
          told = ([], refl);
          range = omega arith;
          own = own_of-nil caller 0 callers;
          numbered = λ e. absurd (off e);
          given = λ e. absurd (off e);
          turn = λ e. absurd (off e);
        }));
        tickets = record {
          flags = refl;
          once = λ a b v x at_a at_b wait_a wait_b eq. (alone w v a at_a).0 ∙ sym (alone w x b at_b).0;
          queue = λ k h. absurd (omega arith);
        };
        numbers = record {
          numbers = omega arith;
          apart = λ a b n v x at_a at_b own_a own_b. (alone w v a at_a).0 ∙ sym (alone w x b at_b).0;
          stands = λ n h. (0, w, refl, (omega arith, omega arith));
        };
        place = inl (record {
          value = value;
          home = refl;
          known = refl;
          listed = empty;
          nobody = λ id v at. sym (ap (λ (z : View F E). z.inside) (alone w v id at).1);
        });
        named = λ n d h. absurd (omega arith);
      }

  -- What is known of the slot when a seat with all numbers closes the table
  pub record IsLast (callers : ℕ) (v : View F E) (slot : Option H) : Type 0 where
    pub value : H
    pub here : slot ≡ Some value
    pub is_true : IsTrueOf fixed entries caller v value
    pub first : v.first ≡ 0
    pub named : All (λ e. caller e < callers) (entries value)

  -- kind 10: the slot has the value, since nobody else can have it
  pub closes : (start : F) (callers id : ℕ) (v : View F E) (words : List ℕ) (slots : List (Option H)) (slot : Option H) → v.inside ≡ false → 0 < v.count → v.count ≡ callers
      → Final (Seen (Kept fixed entries caller start callers) id v) words slots → get_elem? slots 0 ≡ m.some slot → IsLast callers v slot
  closes start callers id v words slots slot outside some_number whole last taken =
      let s = last.0 in
      let k = last.1.0 in
      let at = last.1.1 in
      let mine = fit caller start callers k.log k.out k.served v some_number (k.each id v at) in
      let range_is = mine.range in
      ⊎_elim
      (λ (h : IsHome fixed entries start k.log s.homes s.views). record {
        value = h.value;
        here = some-injective slot (Some h.value) (sym taken ∙ last.4 0 (Some h.value) (ap (λ hs. get_elem? hs 0) h.home));
        is_true = record {
          known = mine.known ∙ ap Some (sym h.known);
          seen = subst (λ xs. StartsWith xs v.seen) (sym h.listed) mine.seen;
          own = mine.own ∙ ap (own_of caller v.first v.count) (sym h.listed);
        };
        first = omega arith;
        named = subst (All (λ e. caller e < callers)) (sym h.listed) k.named;
      })
      (λ (h : IsOut k.log s.homes s.views).
      let f = fit_inside caller start callers k.log k.out k.served h.view h.inside (k.each h.id h.view h.sits) in
      let some_more = f.numbered (f.turn h.inside).0 in
      let other : id ≡ h.id → ⊥ = λ e.
      off (sym outside ∙ ap (λ (z : View F E). z.inside) (some-injective v h.view (sym (subst (λ j. Sits s.views j v) e at) ∙ h.sits)) ∙ h.inside) in
      let sums = two_le_total count_of s.views id h.id v h.view at h.sits other in
      let all = k.numbers.numbers in
      absurd (omega arith))
      k.place
