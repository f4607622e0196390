-- Where the value is, and what each view knows, over a step of one seat.
use Rattle.std.proofs.Common.{◌≡◌, ◌≢◌, ◌⊎◌, ℕ, ◌^◌, ◌<◌, ◌≤◌, List, [], ◌∷◌, ◌++◌, length, set, refl, sym, ap, ◌∙◌, subst, inl, inr, ⊎_elim, arith, true, false, Bool}
use Rattle.std.specs.Prelude.{Option}
use mathlib.Core.Option as m
use mathlib.Core.Logic.{dite}
use native.Mathlib.Decide.{ℕ_discrete}
use Rattle.atomic_table.specs.Table.{State}
use Rattle.atomic_table.proofs.Lists.{at_set, set_here, set_else, at_longer}
use Rattle.cv_turn.specs.declared.view.View.{View}
use Rattle.cv_turn.specs.View.{spent}
use Rattle.cv_turn.specs.Rule.{flag, count_of, total, Sits, Fits, IsHome, IsOut, Kept}
use Rattle.cv_turn.proofs.TicketLemmas.{at_below, at_one, at_end, total_le, off}

-- at a `Bool` that is one of the two
pub by_bool : {P : Type 0} (b : Bool) → (b ≡ true → P) → (b ≡ false → P) → P
by_bool true on off = on refl
by_bool false on off = off refl

module _ {H F E : Type 0} (fixed : H → F) (entries : H → List E) (start : F) (log : List E) (homes : List (m.Option (Option H))) (views : List (View F E)) where
  -- a step that leaves the seat inside or outside, with the same list
  pub place_same : (id : ℕ) (v w : View F E) → Sits views id v → w.inside ≡ v.inside → (v.inside ≡ true → w.taken ≡ v.taken)
      → IsHome fixed entries start log homes views ⊎ IsOut log homes views → IsHome fixed entries start log homes (set views id w) ⊎ IsOut log homes (set views id w)
  place_same id v w here inside taken =
      ⊎_elim
      (λ (h : IsHome fixed entries start log homes views). inl (record {
        value = h.value;
        home = h.home;
        known = h.known;
        listed = h.listed;
        nobody = λ j u at.
            ⊎_elim
            (λ (p : (j ≡ id) × (w ≡ u)). sym (ap (λ (z : View F E). z.inside) p.1) ∙ inside ∙ h.nobody id v here)
            (λ (p : (j ≢ id) × Sits views j u). h.nobody j u p.1)
            (at_set views id j w u at);
      }))
      (λ (h : IsOut log homes views). inr (
      dite (ℕ_discrete h.id id)
      (λ e.
      let same : v ≡ h.view = at_one views id v h.view here (subst (λ k. Sits views k h.view) e h.sits) in
      record {
        away = h.away;
        id = id;
        view = w;
        sits = set_here views id w (at_below views id v here);
        inside = inside ∙ ap (λ (z : View F E). z.inside) same ∙ h.inside;
        listed = taken (ap (λ (z : View F E). z.inside) same ∙ h.inside) ∙ ap (λ (z : View F E). z.taken) same ∙ h.listed;
      })
      (λ ne. record {
        away = h.away;
        id = h.id;
        view = h.view;
        sits = set_else views id h.id w ne ∙ h.sits;
        inside = h.inside;
        listed = h.listed;
      })))

  -- a new seat that is outside
  pub place_snoc : (w : View F E) → w.inside ≡ false
      → IsHome fixed entries start log homes views ⊎ IsOut log homes views → IsHome fixed entries start log homes (views ++ w ∷ []) ⊎ IsOut log homes (views ++ w ∷ [])
  place_snoc w outside =
      ⊎_elim
      (λ (h : IsHome fixed entries start log homes views). inl (record {
        value = h.value;
        home = h.home;
        known = h.known;
        listed = h.listed;
        nobody = λ j u at.
            ⊎_elim
            (λ (p : Sits views j u). h.nobody j u p)
            (λ (p : (j ≡ length views) × (w ≡ u)). sym (ap (λ (z : View F E). z.inside) p.1) ∙ outside)
            (at_end views w u j at);
      }))
      (λ (h : IsOut log homes views). inr (record {
        away = h.away;
        id = h.id;
        view = h.view;
        sits = at_longer views (w ∷ []) h.id h.view h.sits;
        inside = h.inside;
        listed = h.listed;
      }))

-- a view whose facts are true, or a spent one
abbrev pub Known : {F E : Type 0} → (E → ℕ) → F → ℕ → List E → ℕ → ℕ → View F E → Type 0
Known caller start callers log out served v = (v ≡ spent) ⊎ Fits caller start callers log out served v

module _ {F E : Type 0} (caller : E → ℕ) (start : F) (callers : ℕ) (log : List E) (out served : ℕ) where
  -- after a step of one seat each view is known, if the others' and its own are
  pub each_set : (views : List (View F E)) (id : ℕ) (w : View F E) → ((j : ℕ) (u : View F E) → j ≢ id → Sits views j u → Known caller start callers log out served u)
      → Known caller start callers log out served w → (j : ℕ) (u : View F E) → Sits (set views id w) j u → Known caller start callers log out served u
  each_set views id w others mine j u at =
      ⊎_elim
      (λ (p : (j ≡ id) × (w ≡ u)). subst (λ (z : View F E). Known caller start callers log out served z) p.1 mine)
      (λ (p : (j ≢ id) × Sits views j u). others j u p.0 p.1)
      (at_set views id j w u at)

  pub each_snoc : (views : List (View F E)) (w : View F E) → ((j : ℕ) (u : View F E) → Sits views j u → Known caller start callers log out served u)
      → Known caller start callers log out served w → (j : ℕ) (u : View F E) → Sits (views ++ w ∷ []) j u → Known caller start callers log out served u
  each_snoc views w others mine j u at =
      ⊎_elim
      (λ (p : Sits views j u). others j u p)
      (λ (p : (j ≡ length views) × (w ≡ u)). subst (λ (z : View F E). Known caller start callers log out served z) p.1 mine)
      (at_end views w u j at)

  -- a view with numbers isn't spent
  pub fit : (v : View F E) → 0 < v.count → Known caller start callers log out served v → Fits caller start callers log out served v
  fit v some_number k = ⊎_elim (λ (e : v ≡ spent). let none : v.count ≡ 0 = ap (λ (z : View F E). z.count) e in absurd (omega arith)) (λ f. f) k

  -- nor is one with a ticket, or inside
  pub fit_waiting : (v : View F E) → v.waits ≡ true → Known caller start callers log out served v → Fits caller start callers log out served v
  fit_waiting v waits k = ⊎_elim (λ (e : v ≡ spent). absurd (off (sym (ap (λ (z : View F E). z.waits) e) ∙ waits))) (λ f. f) k

  pub fit_inside : (v : View F E) → v.inside ≡ true → Known caller start callers log out served v → Fits caller start callers log out served v
  fit_inside v inside k = ⊎_elim (λ (e : v ≡ spent). absurd (off (sym (ap (λ (z : View F E). z.inside) e) ∙ inside))) (λ f. f) k

  -- who has a ticket has a number
  pub flag_le_count : (v : View F E) → Known caller start callers log out served v → flag v ≤ count_of v
  flag_le_count v k =
      by_bool v.waits
      (λ e. let some_number = (fit_waiting v e k).numbered e in rw e (omega arith))
      (λ e. rw e (omega arith))

module _ {H F E : Type 0} (fixed : H → F) (entries : H → List E) (caller : E → ℕ) (start : F) (callers : ℕ) (s : State (Option H) (View F E)) (k : Kept fixed entries caller start callers s) where
  -- no more tickets are out than there are callers
  pub out_fits : (k.out ≤ callers) × (k.out < 2 ^ 64)
  out_fits =
      let sums : total flag s.views ≤ total count_of s.views = total_le flag count_of s.views (λ j u at. flag_le_count caller start callers k.log k.out k.served u (k.each j u at)) in
      let flags = k.tickets.flags in
      let numbers = k.numbers.numbers in
      let few = k.fits.2 in
      (omega arith, omega arith)

  -- the seat whose turn it is has the served ticket, alone
  pub served_once : (a b : ℕ) (v w : View F E) → Sits s.views a v → Sits s.views b w → v.waits ≡ true → v.ticket ≡ k.served → w.inside ≡ true → a ≡ b
  served_once a b v w at_a at_b waits turn inside =
      let t = (fit_inside caller start callers k.log k.out k.served w inside (k.each b w at_b)).turn inside in
      k.tickets.once a b v w at_a at_b waits t.0 (turn ∙ sym t.1)

  -- while a seat is inside, the slot is out, and the seat has the list
  pub holder : (id : ℕ) (v : View F E) → Sits s.views id v → v.inside ≡ true → (s.homes ≡ m.none ∷ []) × (v.taken ≡ k.log)
  holder id v at inside =
      ⊎_elim
      (λ (h : IsHome fixed entries start k.log s.homes s.views). absurd (off (sym (h.nobody id v at) ∙ inside)))
      (λ (h : IsOut k.log s.homes s.views).
      let t = (fit_inside caller start callers k.log k.out k.served v inside (k.each id v at)).turn inside in
      let same_seat : id ≡ h.id = served_once id h.id v h.view at h.sits t.0 t.1 h.inside in
      let same : v ≡ h.view = at_one s.views h.id v h.view (subst (λ j. Sits s.views j v) same_seat at) h.sits in
      (h.away, ap (λ (z : View F E). z.taken) same ∙ h.listed))
      k.place
