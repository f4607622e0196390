-- The steps that hand over numbers and what was seen keep the rule: a plan, a split, a join and a look.
use Rattle.std.proofs.Common.{◌≡◌, ℕ, ◌+◌, ◌-◌, ◌<◌, ◌≤◌, List, [], ◌++◌, take, drop, set, refl, sym, ap, ◌∙◌, subst, inl, inr, ⊎_elim, arith, append-nil, false, eqb}
use Rattle.std.specs.Prelude.{Option, slice_set, slice_index}
use mathlib.Core.Option as m
use mathlib.Core.Logic.{dite}
use native.Mathlib.Decide.{ℕ_discrete}
use prog.Atomic.{either}
use Rattle.atomic_table.specs.Table.{Me, Allows, Splits, Joins, step, keeps}
use Rattle.atomic_table.proofs.Lists.{set_else, exchanged}
use Rattle.cv_turn.specs.declared.view.View.{View}
use Rattle.cv_turn.specs.Held.{StartsWith, own_of}
use Rattle.cv_turn.specs.View.{spent, planned, kept_part, given_part, joined, looked}
use Rattle.cv_turn.specs.Plays.{HasPlanned, HasLearned}
use Rattle.cv_turn.specs.Rule.{Sits, Fits, Kept}
use Rattle.cv_turn.proofs.HeldLemmas.{take-own_of, drop-own_of, append-own_of, starts_longer}
use Rattle.cv_turn.proofs.TicketLemmas.{off, tickets_same, tickets_snoc}
use Rattle.cv_turn.proofs.NumberLemmas.{numbers_same, numbers_split, numbers_join}
use Rattle.cv_turn.proofs.PlaceLemmas.{Known, place_same, place_snoc, each_set, each_snoc, fit}

module _ {H F E : Type 0} (fixed : H → F) (entries : H → List E) (caller : E → ℕ) (start : F) (callers id : ℕ) where
  -- before kind 8: the seat says how many numbers it hands over, and no word changes
  pub plans : (slots : ℕ) (me : Me (Option H) (View F E)) (count : ℕ) → 0 < me.0.count
      → Allows (Kept fixed entries caller start callers) slots id me 0 (λ n. either (eqb n count) count n) (HasPlanned (step slots 0 count count m.none) me)
  plans slots me count some_number s k sized at small =
      let v = me.0 in
      let w = planned v count in
      let n = slice_index s.words 0 in
      let mine = fit caller start callers k.log k.out k.served v some_number (k.each id v at) in
      let same : either (eqb n count) count n ≡ n = exchanged n count count (λ z. z ≡ n) (λ e. sym e) (λ _. refl) in (
        w,
        keeps,
        tt,
        record {
          log = k.log;
          served = k.served;
          out = k.out;
          words = ap (λ z. slice_set s.words 0 z) same ∙ ap (λ ws. slice_set ws 0 (slice_index ws 0)) k.words;
          fits = k.fits;
          each =
              each_set caller start callers k.log k.out k.served s.views id w (λ j u ne at_u. k.each j u at_u)
              (inr (record {
                known = mine.known;
                seen = mine.seen;
                told = mine.told;
                range = mine.range;
                own = mine.own;
                numbered = mine.numbered;
                given = mine.given;
                turn = mine.turn;
              }));
          tickets = tickets_same s.views id v w at k.out k.served refl (λ _. refl) k.tickets;
          numbers = numbers_same callers s.views id v at w refl refl k.numbers;
          place = place_same fixed entries start k.log s.homes s.views id v w at refl (λ _. refl) k.place;
          named = k.named;
        },
        refl,
      )

  -- kind 8: a new seat has the last numbers, and has seen what this one has
  pub cuts : (v : View F E) → v.waits ≡ false → v.inside ≡ false → 0 < v.count → v.plan ≤ v.count → Splits (Kept fixed entries caller start callers) id v (kept_part v) (given_part v)
  cuts v idle outside some_number planned_fits s k at =
      let left = kept_part v in
      let right = given_part v in
      let stays = v.count - v.plan in
      let mine = fit caller start callers k.log k.out k.served v some_number (k.each id v at) in
      let range_is = mine.range in
      let rest : v.count - stays ≡ v.plan = omega arith in
      record {
        log = k.log;
        served = k.served;
        out = k.out;
        words = k.words;
        fits = k.fits;
        each =
            each_snoc caller start callers k.log k.out k.served (set s.views id left) right
            (each_set caller start callers k.log k.out k.served s.views id left (λ j u ne at_u. k.each j u at_u)
            (inr (record {
              known = mine.known;
              seen = mine.seen;
              told = mine.told;
              range = omega arith;
              own = ap (take stays) mine.own ∙ take-own_of caller stays v.first v.count k.log (omega arith);
              numbered = λ e. absurd (off (sym idle ∙ e));
              given = λ e. absurd (off (sym idle ∙ e));
              turn = λ e. absurd (off (sym outside ∙ e));
            })))
            (inr (record {
              known = mine.known;
              seen = mine.seen;
              told = mine.told;
              range = omega arith;
              own = ap (drop stays) mine.own ∙ drop-own_of caller stays v.first v.count (v.first + stays) k.log (omega arith) refl ∙ ap (λ n. own_of caller (v.first + stays) n k.log) rest;
              numbered = λ e. absurd (off (sym idle ∙ e));
              given = λ e. absurd (off (sym idle ∙ e));
              turn = λ e. absurd (off (sym outside ∙ e));
            }));
        tickets = tickets_snoc (set s.views id left) right k.out k.served idle (tickets_same s.views id v left at k.out k.served refl (λ _. refl) k.tickets);
        numbers = numbers_split callers s.views id v at left right stays v.plan refl refl refl refl (omega arith) k.numbers;
        place =
            place_snoc fixed entries start k.log s.homes (set s.views id left) right outside
            (place_same fixed entries start k.log s.homes s.views id v left at refl (λ _. refl) k.place);
        named = k.named;
      }

  -- kind 9: the seat takes in another's numbers, and is told what that one had seen
  pub meets : (v : View F E) (other : ℕ) (w : View F E) → v.waits ≡ false → v.inside ≡ false → 0 < v.count → w.waits ≡ false → w.inside ≡ false
      → (0 < w.count → w.first ≡ v.first + v.count) → Joins (Kept fixed entries caller start callers) id v other w (joined v w) spent
  meets v other w idle outside some_number other_idle other_outside next s k at differ there =
      let both = joined v w in
      let mine = fit caller start callers k.log k.out k.served v some_number (k.each id v at) in
      let at_other : Sits s.views other w = sym (set_else s.views id other both differ) ∙ there in
      let theirs = true_of w (k.each other w at_other) in
      let range_is = mine.range in
      record {
        log = k.log;
        served = k.served;
        out = k.out;
        words = k.words;
        fits = k.fits;
        each =
            each_set caller start callers k.log k.out k.served (set s.views id both) other spent
            (λ i x ni at_x. each_set caller start callers k.log k.out k.served s.views id both (λ j u ne at_u. k.each j u at_u)
            (inr (record {
              known = mine.known;
              seen = mine.seen;
              told = theirs.0;
              range = dite (ℕ_discrete w.count 0) (λ e. omega arith) (λ ne. let here = next (omega arith) in let inside_range = theirs.1 (omega arith) in omega arith);
              own = both_own k.log mine.own theirs.2;
              numbered = λ e. absurd (off (sym idle ∙ e));
              given = λ e. absurd (off (sym idle ∙ e));
              turn = λ e. absurd (off (sym outside ∙ e));
            })) i x at_x)
            (inl refl);
        tickets =
            tickets_same (set s.views id both) other w spent there k.out k.served (sym other_idle) (λ e. absurd (off (sym other_idle ∙ e)))
            (tickets_same s.views id v both at k.out k.served refl (λ _. refl) k.tickets);
        numbers = numbers_join callers s.views id v at other w both spent differ at_other refl refl next refl k.numbers;
        place =
            place_same fixed entries start k.log s.homes (set s.views id both) other w spent there (sym other_outside) (λ e. absurd (off (sym other_outside ∙ e)))
            (place_same fixed entries start k.log s.homes s.views id v both at refl (λ _. refl) k.place);
        named = k.named;
      }
    where
      true_of : (u : View F E) → Known caller start callers k.log k.out k.served u → StartsWith k.log u.seen × (0 < u.count → u.first + u.count ≤ callers) × (u.own ≡ own_of caller u.first u.count k.log)
      true_of u =
          ⊎_elim
          (λ (e : u ≡ spent).
          let none : u.count ≡ 0 = ap (λ (z : View F E). z.count) e in
          (subst (λ l. StartsWith k.log l) (sym (ap (λ (z : View F E). z.seen) e)) (k.log, refl), (λ h. absurd (omega arith)), subst (λ (z : View F E). z.own ≡ own_of caller z.first z.count k.log) (sym e) refl))
          (λ (f : Fits caller start callers k.log k.out k.served u). (f.seen, (λ _. f.range), f.own))

      both_own : (log : List E) → v.own ≡ own_of caller v.first v.count log → w.own ≡ own_of caller w.first w.count log → v.own ++ w.own ≡ own_of caller v.first (v.count + w.count) log
      both_own log p q =
          dite (ℕ_discrete w.count 0)
          (λ e.
          let none : w.own ≡ [] = q ∙ ap (λ n. own_of caller w.first n log) e in
          let all : v.count ≡ v.count + w.count = omega arith in
          ap (λ o. v.own ++ o) none ∙ append-nil v.own ∙ p ∙ ap (λ n. own_of caller v.first n log) all)
          (λ ne. (λ i. p i ++ q i) ∙ append-own_of caller v.first v.count w.count w.first log (next (omega arith)))

  -- kind 7 outside a turn: the seat has seen the longer of the lists that it knows
  pub learns : (slots : ℕ) (me : Me (Option H) (View F E)) → 0 < me.0.count → Allows (Kept fixed entries caller start callers) slots id me 0 (λ n. n) (HasLearned (step slots 0 0 0 m.none) me)
  learns slots me some_number s k sized at small =
      let v = me.0 in
      let w = looked v in
      let mine = fit caller start callers k.log k.out k.served v some_number (k.each id v at) in
      let longest = starts_longer k.log v.seen v.told mine.seen mine.told in (
        w,
        keeps,
        tt,
        record {
          log = k.log;
          served = k.served;
          out = k.out;
          words = ap (λ ws. slice_set ws 0 (slice_index ws 0)) k.words;
          fits = k.fits;
          each =
              each_set caller start callers k.log k.out k.served s.views id w (λ j u ne at_u. k.each j u at_u)
              (inr (record {
                known = mine.known;
                seen = longest.2;
                told = (k.log, refl);
                range = mine.range;
                own = mine.own;
                numbered = mine.numbered;
                given = mine.given;
                turn = mine.turn;
              }));
          tickets = tickets_same s.views id v w at k.out k.served refl (λ _. refl) k.tickets;
          numbers = numbers_same callers s.views id v at w refl refl k.numbers;
          place = place_same fixed entries start k.log s.homes s.views id v w at refl (λ _. refl) k.place;
          named = k.named;
        },
        (refl, longest.0, longest.1),
      )
