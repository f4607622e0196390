-- Sums over views, and that each ticket stands in one view.
use Rattle.std.proofs.Common.{◌≡◌, ◌≢◌, ◌⊎◌, ℕ, zero, suc, ◌+◌, ◌-◌, ◌%◌, ◌^◌, ◌<◌, ◌≤◌, List, [], ◌∷◌, ◌++◌, length, set, refl, sym, ap, ◌∙◌, subst, inl, inr, ⊎_elim, arith, true, false, true≢false, Bool}
use Rattle.std.specs.Prelude.{if◌then◌else◌}
use mathlib.Core.Option.{some, some-injective, some-ne-none}
use mathlib.Core.Logic.{dite}
use native.Mathlib.Decide.{ℕ_discrete}
use lib.ListN.{get_elem?}
use Rattle.atomic_table.proofs.Lists.{at_set, set_here, set_else, at_longer}
use Rattle.cv_turn.specs.declared.view.View.{View}
use Rattle.cv_turn.specs.Rule.{offset, total, flag, Sits, Tickets}

module _ {A : Type 0} where
  -- who is there stands below the length
  pub at_below : (l : List A) (i : ℕ) (a : A) → get_elem? l i ≡ some a → i < length l
  at_below [] i a e = absurd (some-ne-none a (sym e))
  at_below (x ∷ xs) zero a e = omega arith
  at_below (x ∷ xs) (suc i) a e = let h = at_below xs i a e in omega arith

  -- one element stands at one place
  pub at_one : (l : List A) (i : ℕ) (a b : A) → get_elem? l i ≡ some a → get_elem? l i ≡ some b → a ≡ b
  at_one l i a b p q = some-injective a b (sym p ∙ q)

  -- an element of a list with one more at the end is an old one or the new one
  pub at_end : (l : List A) (a b : A) (j : ℕ) → get_elem? (l ++ a ∷ []) j ≡ some b → (get_elem? l j ≡ some b) ⊎ ((j ≡ length l) × (a ≡ b))
  at_end [] a b zero e = inr (refl, some-injective a b e)
  at_end [] a b (suc j) e = absurd (some-ne-none b (sym e))
  at_end (x ∷ xs) a b zero e = inl e
  at_end (x ∷ xs) a b (suc j) e = ⊎_elim (λ h. inl h) (λ h. inr (ap suc h.0, h.1)) (at_end xs a b j e)

  pub at_new : (l : List A) (a : A) → get_elem? (l ++ a ∷ []) (length l) ≡ some a
  at_new [] a = refl
  at_new (x ∷ xs) a = at_new xs a

  -- a sum after a change of one part, and with one more
  pub total_set : (f : A → ℕ) (l : List A) (i : ℕ) (a b : A) → get_elem? l i ≡ some a → total f (set l i b) + f a ≡ total f l + f b
  total_set f [] i a b e = absurd (some-ne-none a (sym e))
  total_set f (x ∷ xs) zero a b e = let same : f x ≡ f a = ap f (some-injective x a e) in omega arith
  total_set f (x ∷ xs) (suc i) a b e = let rest = total_set f xs i a b e in omega arith

  pub total_snoc : (f : A → ℕ) (l : List A) (a : A) → total f (l ++ a ∷ []) ≡ total f l + f a
  total_snoc f [] a = omega arith
  total_snoc f (x ∷ xs) a = let rest = total_snoc f xs a in omega arith

  -- no part is more than the sum
  pub part_le_total : (f : A → ℕ) (l : List A) (i : ℕ) (a : A) → get_elem? l i ≡ some a → f a ≤ total f l
  part_le_total f [] i a e = absurd (some-ne-none a (sym e))
  part_le_total f (x ∷ xs) zero a e = let same : f x ≡ f a = ap f (some-injective x a e) in omega arith
  part_le_total f (x ∷ xs) (suc i) a e = let rest = part_le_total f xs i a e in omega arith

  -- two parts of different places are no more than the sum
  pub two_le_total : (f : A → ℕ) (l : List A) (i j : ℕ) (a b : A) → get_elem? l i ≡ some a → get_elem? l j ≡ some b → (i ≡ j → ⊥) → f a + f b ≤ total f l
  two_le_total f [] i j a b e d apart = absurd (some-ne-none a (sym e))
  two_le_total f (x ∷ xs) zero zero a b e d apart = absurd (apart refl)
  two_le_total f (x ∷ xs) zero (suc j) a b e d apart = let same : f x ≡ f a = ap f (some-injective x a e) in let rest = part_le_total f xs j b d in omega arith
  two_le_total f (x ∷ xs) (suc i) zero a b e d apart = let same : f x ≡ f b = ap f (some-injective x b d) in let rest = part_le_total f xs i a e in omega arith
  two_le_total f (x ∷ xs) (suc i) (suc j) a b e d apart = let rest = two_le_total f xs i j a b e d (λ h. apart (ap suc h)) in omega arith

  -- a sum of larger parts is larger
  pub total_le : (f g : A → ℕ) (l : List A) → ((j : ℕ) (a : A) → get_elem? l j ≡ some a → f a ≤ g a) → total f l ≤ total g l
  total_le f g [] each = omega arith
  total_le f g (x ∷ xs) each = let here = each 0 x refl in let rest = total_le f g xs (λ j a e. each (suc j) a e) in omega arith

-- the places of tickets in the queue
pub offset_here : (s : ℕ) → s < 2 ^ 64 → offset s s ≡ 0
offset_here s h = omega arith

pub offset_last : (s out n : ℕ) → s < 2 ^ 64 → out < 2 ^ 64 → n ≡ (s + out) % 2 ^ 64 → offset n s ≡ out
offset_last s out n h k is = omega arith

pub offset_next : (t s : ℕ) → t < 2 ^ 64 → s < 2 ^ 64 → 0 < offset t s → offset t ((s + 1) % 2 ^ 64) + 1 ≡ offset t s
offset_next t s h k some_before = omega arith

pub offset_none : (t s : ℕ) → t < 2 ^ 64 → s < 2 ^ 64 → offset t s ≡ 0 → t ≡ s
offset_none t s h k none = omega arith

pub off : false ≡ true → ⊥
off e = true≢false (sym e)

module _ {F E : Type 0} where
  pub flag_on : (v : View F E) → v.waits ≡ true → flag v ≡ 1
  flag_on v e = rw e refl

  pub flag_off : (v : View F E) → v.waits ≡ false → flag v ≡ 0
  flag_off v e = rw e refl

  -- whoever waits in the list with w in v's place waits there with v, with the same ticket
  module _ (views : List (View F E)) (id : ℕ) (v w : View F E) (here : Sits views id v) where
    waited : w.waits ≡ v.waits → (v.waits ≡ true → w.ticket ≡ v.ticket) → (a : ℕ) (x : View F E) → Sits (set views id w) a x → x.waits ≡ true
        → (y : View F E) × Sits views a y × (y.waits ≡ true) × (y.ticket ≡ x.ticket)
    waited same ticket a x at waits =
        ⊎_elim
        (λ (t : (a ≡ id) × (w ≡ x)).
        let w_waits : w.waits ≡ true = ap (λ (z : View F E). z.waits) t.1 ∙ waits in
        let v_waits : v.waits ≡ true = sym same ∙ w_waits in
        (v, subst (λ k. Sits views k v) (sym t.0) here, v_waits, sym (ticket v_waits) ∙ ap (λ (z : View F E). z.ticket) t.1))
        (λ (t : (a ≢ id) × Sits views a x). (x, t.1, waits, refl))
        (at_set views id a w x at)

    waiting : w.waits ≡ v.waits → (v.waits ≡ true → w.ticket ≡ v.ticket) → (a : ℕ) (y : View F E) → Sits views a y → y.waits ≡ true
        → (x : View F E) × Sits (set views id w) a x × (x.waits ≡ true) × (x.ticket ≡ y.ticket)
    waiting same ticket a y at waits =
        dite (ℕ_discrete a id)
        (λ e.
        let is_v : v ≡ y = at_one views id v y here (subst (λ k. Sits views k y) e at) in
        let v_waits : v.waits ≡ true = ap (λ (z : View F E). z.waits) is_v ∙ waits in
        (w, subst (λ k. Sits (set views id w) k w) (sym e) (set_here views id w (at_below views id v here)), same ∙ v_waits, ticket v_waits ∙ ap (λ (z : View F E). z.ticket) is_v))
        (λ n. (y, set_else views id a w n ∙ at, waits, refl))

    -- a step that leaves the seat's ticket
    pub tickets_same : (out served : ℕ) → w.waits ≡ v.waits → (v.waits ≡ true → w.ticket ≡ v.ticket) → Tickets out served views → Tickets out served (set views id w)
    tickets_same out served same ticket t = record {
      flags =
          let sums = total_set flag views id v w here in
          let flags : flag w ≡ flag v = ap (λ (b : Bool). if b then 1 else 0) same in
          let was = t.flags in
          omega arith;
      once = λ a b x y at_a at_b wait_a wait_b eq.
          let p = waited same ticket a x at_a wait_a in
          let q = waited same ticket b y at_b wait_b in
          t.once a b p.0 q.0 p.1 q.1 p.2 q.2 (p.3 ∙ eq ∙ sym q.3);
      queue = λ k h.
          let q = t.queue k h in
          let p = waiting same ticket q.0 q.1 q.2 q.3 in
          (q.0, p.0, p.1, p.2, ap (λ n. offset n served) p.3 ∙ q.4);
    }

    -- a ticket is drawn
    pub tickets_draw : (out served n : ℕ) → v.waits ≡ false → w.waits ≡ true → w.ticket ≡ n → served < 2 ^ 64 → out < 2 ^ 64 → n ≡ (served + out) % 2 ^ 64
        → ((j : ℕ) (u : View F E) → Sits views j u → u.waits ≡ true → offset u.ticket served < out) → Tickets out served views → Tickets (out + 1) served (set views id w)
    tickets_draw out served n idle waits ticket small fits is below t = record {
      flags =
          let sums = total_set flag views id v w here in
          let one = flag_on w waits in
          let none = flag_off v idle in
          let was = t.flags in
          omega arith;
      once = λ a b x y at_a at_b wait_a wait_b eq.
          ⊎_elim
          (λ (p : (a ≡ id) × (w ≡ x)).
          ⊎_elim
          (λ (q : (b ≡ id) × (w ≡ y)). p.0 ∙ sym q.0)
          (λ (q : (b ≢ id) × Sits views b y). absurd (clash y b q.1 wait_b (sym ticket ∙ ap (λ (z : View F E). z.ticket) p.1 ∙ eq)))
          (at_set views id b w y at_b))
          (λ (p : (a ≢ id) × Sits views a x).
          ⊎_elim
          (λ (q : (b ≡ id) × (w ≡ y)). absurd (clash x a p.1 wait_a (sym ticket ∙ ap (λ (z : View F E). z.ticket) q.1 ∙ sym eq)))
          (λ (q : (b ≢ id) × Sits views b y). t.once a b x y p.1 q.1 wait_a wait_b eq)
          (at_set views id b w y at_b))
          (at_set views id a w x at_a);
      queue = λ k h.
          dite (ℕ_discrete k out)
          (λ e. (id, w, set_here views id w (at_below views id v here), waits, ap (λ m. offset m served) ticket ∙ last ∙ sym e))
          (λ ne.
          let q = t.queue k (omega arith) in
          let other : q.0 ≢ id = λ e. off (sym idle ∙ ap (λ (z : View F E). z.waits) (at_one views id v q.1 here (subst (λ j. Sits views j q.1) e q.2)) ∙ q.3) in
          (q.0, q.1, set_else views id q.0 w other ∙ q.2, q.3, q.4));
    }
      where
        last : offset n served ≡ out
        last = offset_last served out n small fits is

        clash : (u : View F E) (j : ℕ) → Sits views j u → u.waits ≡ true → n ≡ u.ticket → ⊥
        clash u j at u_waits same =
            let h = below j u at u_waits in
            let o : offset u.ticket served ≡ out = ap (λ m. offset m served) (sym same) ∙ last in
            omega arith

    -- the next ticket is served
    pub tickets_serve : (out served : ℕ) → v.waits ≡ true → v.ticket ≡ served → w.waits ≡ false → served < 2 ^ 64
        → ((j : ℕ) (u : View F E) → Sits views j u → u.waits ≡ true → u.ticket < 2 ^ 64) → Tickets out served views → Tickets (out - 1) ((served + 1) % 2 ^ 64) (set views id w)
    tickets_serve out served waits turn done small fits t = record {
      flags =
          let sums = total_set flag views id v w here in
          let one = flag_on v waits in
          let none = flag_off w done in
          let was = t.flags in
          omega arith;
      once = λ a b x y at_a at_b wait_a wait_b eq. t.once a b x y (stays a x at_a wait_a) (stays b y at_b wait_b) wait_a wait_b eq;
      queue = λ k h.
          let q = t.queue (k + 1) (omega arith) in
          let place = q.4 in
          let other : q.0 ≢ id = λ e. first q.1 (at_one views id v q.1 here (subst (λ j. Sits views j q.1) e q.2)) k place in
          let low = fits q.0 q.1 q.2 q.3 in
          let next = offset_next q.1.ticket served low small (omega arith) in
          (q.0, q.1, set_else views id q.0 w other ∙ q.2, q.3, omega arith);
    }
      where
        stays : (a : ℕ) (x : View F E) → Sits (set views id w) a x → x.waits ≡ true → Sits views a x
        stays a x at x_waits =
            ⊎_elim
            (λ (p : (a ≡ id) × (w ≡ x)). absurd (off (sym done ∙ ap (λ (z : View F E). z.waits) p.1 ∙ x_waits)))
            (λ (p : (a ≢ id) × Sits views a x). p.1)
            (at_set views id a w x at)

        first : (u : View F E) → v ≡ u → (k : ℕ) → offset u.ticket served ≡ k + 1 → ⊥
        first u same k place =
            let t : u.ticket ≡ served = sym (ap (λ (z : View F E). z.ticket) same) ∙ turn in
            let zero_place : offset u.ticket served ≡ 0 = ap (λ m. offset m served) t ∙ offset_here served small in
            omega arith

  -- a new seat without a ticket
  pub tickets_snoc : (views : List (View F E)) (w : View F E) (out served : ℕ) → w.waits ≡ false → Tickets out served views → Tickets out served (views ++ w ∷ [])
  tickets_snoc views w out served idle t = record {
    flags =
        let sums = total_snoc flag views w in
        let none = flag_off w idle in
        let was = t.flags in
        omega arith;
    once = λ a b x y at_a at_b wait_a wait_b eq. t.once a b x y (old a x at_a wait_a) (old b y at_b wait_b) wait_a wait_b eq;
    queue = λ k h. let q = t.queue k h in (q.0, q.1, at_longer views (w ∷ []) q.0 q.1 q.2, q.3, q.4);
  }
    where
      old : (a : ℕ) (x : View F E) → Sits (views ++ w ∷ []) a x → x.waits ≡ true → Sits views a x
      old a x at waits =
          ⊎_elim
          (λ h. h)
          (λ (p : (a ≡ length views) × (w ≡ x)). absurd (off (sym idle ∙ ap (λ (z : View F E). z.waits) p.1 ∙ waits)))
          (at_end views w x a at)
