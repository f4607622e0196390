-- That each number stands in one view.
use Rattle.std.proofs.Common.{◌≡◌, ◌≢◌, ◌⊎◌, ℕ, ◌+◌, ◌<◌, ◌≤◌, List, [], ◌∷◌, ◌++◌, length, set, refl, sym, ap, ◌∙◌, subst, inl, inr, ⊎_elim, arith, eqb, ltb, eq-eqb, ne_eqb, lt_of_not-le}
use Rattle.std.specs.Prelude.{if◌then◌else◌}
use Rattle.std.proofs.lemmas.Bool.{lt-ltb, le-ltb}
use mathlib.Core.Logic.{dite}
use native.Mathlib.Decide.{ℕ_discrete, dec_le}
use Rattle.atomic_table.proofs.Lists.{at_set, set_here, set_else, at_longer}
use Rattle.cv_turn.specs.declared.view.View.{View}
use Rattle.cv_turn.specs.Rule.{count_of, Sits, Owns, Numbers}
use Rattle.cv_turn.proofs.TicketLemmas.{at_below, at_one, at_end, at_new, total_set, total_snoc}

-- which seat has the number of seat i after seat `id` handed what is from `low` on to the seat `last`
abbrev split_place : ℕ → ℕ → ℕ → ℕ → ℕ → ℕ
split_place id last low i n = if eqb i id then (if ltb n low then id else last) else i

-- which seat has the numbers of seat i after seat `id` took in the seat `other`
abbrev joined_place : ℕ → ℕ → ℕ → ℕ
joined_place id other i = if eqb i other then id else i

module _ {F E : Type 0} where
  -- a view with the same range has the same numbers
  owns_same : (v w : View F E) (n : ℕ) → w.first ≡ v.first → w.count ≡ v.count → Owns v n → Owns w n
  owns_same v w n first count h = let low = h.0 in let high = h.1 in (omega arith, omega arith)

  owns_here : (v w : View F E) (n : ℕ) → v ≡ w → Owns v n → Owns w n
  owns_here v w n same h = subst (λ (z : View F E). Owns z n) same h

  module _ (callers : ℕ) (views : List (View F E)) (id : ℕ) (v : View F E) (here : Sits views id v) where
    -- a step that leaves the seat's range
    pub numbers_same : (w : View F E) → w.first ≡ v.first → w.count ≡ v.count → Numbers callers views → Numbers callers (set views id w)
    numbers_same w first count t = record {
      numbers =
          let sums = total_set count_of views id v w here in
          let was = t.numbers in
          omega arith;
      apart = λ a b n x y at_a at_b own_a own_b.
          let p = was_there a x n at_a own_a in
          let q = was_there b y n at_b own_b in
          t.apart a b n p.0 q.0 p.1 q.1 p.2 q.2;
      stands = λ n h.
          let q = t.stands n h in
          dite (ℕ_discrete q.0 id)
          (λ e.
          let own_v : Owns v n = owns_here q.1 v n (sym (at_one views id v q.1 here (subst (λ k. Sits views k q.1) e q.2))) q.3 in
          (id, w, set_here views id w (at_below views id v here), owns_same v w n first count own_v))
          (λ ne. (q.0, q.1, set_else views id q.0 w ne ∙ q.2, q.3));
    }
      where
        was_there : (a : ℕ) (x : View F E) (n : ℕ) → Sits (set views id w) a x → Owns x n → (y : View F E) × Sits views a y × Owns y n
        was_there a x n at own =
            ⊎_elim
            (λ (p : (a ≡ id) × (w ≡ x)). (v, subst (λ k. Sits views k v) (sym p.0) here, owns_same w v n (sym first) (sym count) (owns_here x w n (sym p.1) own)))
            (λ (p : (a ≢ id) × Sits views a x). (x, p.1, own))
            (at_set views id a w x at)

    -- the last numbers of the seat go to a new one
    pub numbers_split : (l r : View F E) (kept given : ℕ) → l.first ≡ v.first → l.count ≡ kept → r.first ≡ v.first + kept → r.count ≡ given → kept + given ≡ v.count
        → Numbers callers views → Numbers callers (set views id l ++ r ∷ [])
    numbers_split l r kept given l_first l_count r_first r_count all t = record {
      numbers =
          let sums = total_set count_of views id v l here in
          let more = total_snoc count_of (set views id l) r in
          let was = t.numbers in
          omega arith;
      apart = λ a b n x y at_a at_b own_a own_b.
          let p = was_there a x n at_a own_a in
          let q = was_there b y n at_b own_b in
          p.4 ∙ ap (λ i. split_place id last low i n) (t.apart p.0 q.0 n p.1 q.1 p.2 q.2 p.3 q.3) ∙ sym q.4;
      stands = λ n h.
          let q = t.stands n h in
          dite (ℕ_discrete q.0 id)
          (λ e. let own_v : Owns v n = owns_here q.1 v n (sym (at_one views id v q.1 here (subst (λ k. Sits views k q.1) e q.2))) q.3 in parted n own_v)
          (λ ne. (q.0, q.1, at_longer (set views id l) (r ∷ []) q.0 q.1 (set_else views id q.0 l ne ∙ q.2), q.3));
    }
      where
        last : ℕ
        last = length (set views id l)

        low : ℕ
        low = v.first + kept

        own_left : (n : ℕ) → Owns l n → Owns v n × (n < v.first + kept)
        own_left n h = let a = h.0 in let b = h.1 in ((omega arith, omega arith), omega arith)

        own_right : (n : ℕ) → Owns r n → Owns v n × (v.first + kept ≤ n)
        own_right n h = let a = h.0 in let b = h.1 in ((omega arith, omega arith), omega arith)

        parted : (n : ℕ) → Owns v n → (a : ℕ) × (x : View F E) × Sits (set views id l ++ r ∷ []) a x × Owns x n
        parted n h =
            let a = h.0 in
            let b = h.1 in
            dite (dec_le (v.first + kept) n)
            (λ e. (last, r, at_new (set views id l) r, (omega arith, omega arith)))
            (λ ne. let small = lt_of_not-le ne in (id, l, at_longer (set views id l) (r ∷ []) id l (set_here views id l (at_below views id v here)), (omega arith, omega arith)))

        was_there : (a : ℕ) (x : View F E) (n : ℕ) → Sits (set views id l ++ r ∷ []) a x → Owns x n
            → (i : ℕ) × (u : View F E) × Sits views i u × Owns u n × (a ≡ split_place id (length (set views id l)) (v.first + kept) i n)
        was_there a x n at own =
            ⊎_elim
            (λ (old : Sits (set views id l) a x).
            ⊎_elim
            (λ (p : (a ≡ id) × (l ≡ x)).
            let h = own_left n (owns_here x l n (sym p.1) own) in
            (id, v, here, h.0, p.0 ∙ rw (eq-eqb id id refl, lt-ltb n (v.first + kept) h.1) refl))
            (λ (p : (a ≢ id) × Sits views a x). (a, x, p.1, own, rw (ne_eqb a id p.0) refl))
            (at_set views id a l x old))
            (λ (p : (a ≡ length (set views id l)) × (r ≡ x)).
            let h = own_right n (owns_here x r n (sym p.1) own) in
            (id, v, here, h.0, p.0 ∙ rw (eq-eqb id id refl, le-ltb n (v.first + kept) h.1) refl))
            (at_end (set views id l) r x a at)

    -- the seat takes in another, whose numbers are those behind its own
    pub numbers_join : (other : ℕ) (w both spent : View F E) → (other ≡ id → ⊥) → Sits views other w → both.first ≡ v.first → both.count ≡ v.count + w.count
        → (0 < w.count → w.first ≡ v.first + v.count) → spent.count ≡ 0 → Numbers callers views → Numbers callers (set (set views id both) other spent)
    numbers_join other w both spent differ there first count next none t = record {
      numbers =
          let sums = total_set count_of views id v both here in
          let more = total_set count_of (set views id both) other w spent there_still in
          let was = t.numbers in
          omega arith;
      apart = λ a b n x y at_a at_b own_a own_b.
          let p = was_there a x n at_a own_a in
          let q = was_there b y n at_b own_b in
          p.4 ∙ ap (λ i. joined_place id other i) (t.apart p.0 q.0 n p.1 q.1 p.2 q.2 p.3 q.3) ∙ sym q.4;
      stands = λ n h.
          let q = t.stands n h in
          dite (ℕ_discrete q.0 other)
          (λ e. let own_w : Owns w n = owns_here q.1 w n (sym (at_one views other w q.1 there (subst (λ k. Sits views k q.1) e q.2))) q.3 in (id, both, both_there, from_other n own_w))
          (λ ne.
          dite (ℕ_discrete q.0 id)
          (λ e. let own_v : Owns v n = owns_here q.1 v n (sym (at_one views id v q.1 here (subst (λ k. Sits views k q.1) e q.2))) q.3 in (id, both, both_there, from_this n own_v))
          (λ ni. (q.0, q.1, set_else (set views id both) other q.0 spent ne ∙ (set_else views id q.0 both ni ∙ q.2), q.3)));
    }
      where
        there_still : Sits (set views id both) other w
        there_still = set_else views id other both differ ∙ there

        both_there : Sits (set (set views id both) other spent) id both
        both_there = set_else (set views id both) other id spent (λ e. differ (sym e)) ∙ set_here views id both (at_below views id v here)

        from_this : (n : ℕ) → Owns v n → Owns both n
        from_this n h = let a = h.0 in let b = h.1 in (omega arith, omega arith)

        from_other : (n : ℕ) → Owns w n → Owns both n
        from_other n h = let a = h.0 in let b = h.1 in let s = next (omega arith) in (omega arith, omega arith)

        of_both : (n : ℕ) → Owns both n → Owns v n ⊎ Owns w n
        of_both n h =
            let a = h.0 in
            let b = h.1 in
            dite (dec_le (v.first + v.count) n) (λ e. let s = next (omega arith) in inr (omega arith, omega arith)) (λ ne. let small = lt_of_not-le ne in inl (omega arith, omega arith))

        was_there : (a : ℕ) (x : View F E) (n : ℕ) → Sits (set (set views id both) other spent) a x → Owns x n
            → (i : ℕ) × (u : View F E) × Sits views i u × Owns u n × (a ≡ joined_place id other i)
        was_there a x n at own =
            ⊎_elim
            (λ (p : (a ≡ other) × (spent ≡ x)). let h = owns_here x spent n (sym p.1) own in let low = h.0 in let high = h.1 in absurd (omega arith))
            (λ (p : (a ≢ other) × Sits (set views id both) a x).
            ⊎_elim
            (λ (q : (a ≡ id) × (both ≡ x)).
            ⊎_elim
            (λ (h : Owns v n). (id, v, here, h, q.0 ∙ rw (ne_eqb id other (λ e. differ (sym e))) refl))
            (λ (h : Owns w n). (other, w, there, h, q.0 ∙ rw (eq-eqb other other refl) refl))
            (of_both n (owns_here x both n (sym q.1) own)))
            (λ (q : (a ≢ id) × Sits views a x). (a, x, q.1, own, rw (ne_eqb a other p.0) refl))
            (at_set views id a both x p.1))
            (at_set (set views id both) other a spent x at)
