-- The steps of a turn keep the rule: a ticket, the turn, an entry or a look, and the next ticket.
use Rattle.std.proofs.Common.{◌≡◌, ◌≢◌, ℕ, ◌+◌, ◌-◌, ◌%◌, ◌^◌, ◌<◌, List, [], ◌∷◌, ◌++◌, length, drop, refl, sym, ap, ◌∙◌, subst, inl, inr, ⊎_elim, arith, append-nil, length-append, true, false, Some}
use Rattle.std.specs.Prelude.{Option, All, slice_set, slice_index}
use Rattle.std.proofs.lemmas.List.Elements.{All-push}
use Rattle.std.proofs.Math.Seq.{drop-append_seam}
use mathlib.Core.Option as m
use mathlib.Core.Logic.{dite}
use native.Mathlib.Decide.{ℕ_discrete}
use lib.ListN.{get_elem?}
use Rattle.atomic_table.specs.Table.{State, Me, Act, Valid, stepped, carried_after, put_back, Allows, step, keeps, takes, gives}
use Rattle.atomic_table.proofs.Lists.{at_set, set_here, set_again}
use Rattle.cv_turn.specs.declared.view.View.{View}
use Rattle.cv_turn.specs.Held.{StartsWith, own_of, grown}
use Rattle.cv_turn.specs.View.{spent, drawn, entered, counted, unticketed}
use Rattle.cv_turn.specs.Plays.{HasDrawn, HasServed, HasLooked, HasCounted, carried_list}
use Rattle.cv_turn.specs.Rule.{offset, flag, Sits, Fits, IsHome, IsOut, Kept}
use Rattle.cv_turn.proofs.HeldLemmas.{own_of-other, own_of-grown, grown-nil, starts_whole, starts_more}
use Rattle.cv_turn.proofs.TicketLemmas.{at_below, at_one, off, offset_none, offset_next, part_le_total, flag_on, tickets_same, tickets_draw, tickets_serve}
use Rattle.cv_turn.proofs.NumberLemmas.{numbers_same}
use Rattle.cv_turn.proofs.PlaceLemmas.{by_bool, place_same, each_set, fit, fit_waiting, fit_inside, out_fits, served_once, holder}

-- the seat has a new view and an act that keep the rule where the word i becomes n, and `then` holds of the seat after
abbrev pub CanStep : {S V : Type 0} → (State S V → Type 0) → State S V → ℕ → Me S V → ℕ → ℕ → (Me S V → Type 0) → Type 0
CanStep {S} {V} holds s id me i n then = (w : V) × (a : Act S) × Valid s.homes me.1 a × holds (stepped s i n id me.1 w a) × then (w, carried_after me.1 a)

same_some : {A : Type 0} {x y : A} → Some x ≡ Some y → x ≡ y
same_some e = cc

module _ {H F E : Type 0} (fixed : H → F) (entries : H → List E) (caller : E → ℕ) (start : F) (callers slots id : ℕ) where
  -- kind 1: the seat has a ticket, the last one
  pub draws : (me : Me (Option H) (View F E)) → me.0.waits ≡ false → me.0.inside ≡ false → 0 < me.0.count
      → Allows (Kept fixed entries caller start callers) slots id me 1 (λ n. (n + 1) % 2 ^ 64) (HasDrawn (step slots 1 1 0 m.none) me)
  draws me idle outside some_number s k sized at small =
      let v = me.0 in
      let n = slice_index s.words 1 in
      let w = drawn v n in
      let is : n ≡ (k.served + k.out) % 2 ^ 64 = ap (λ ws. slice_index ws 1) k.words in
      let few = out_fits fixed entries caller start callers s k in
      let low : k.served < 2 ^ 64 = k.fits.0 in
      let mine = fit caller start callers k.log k.out k.served v some_number (k.each id v at) in (
        w,
        keeps,
        tt,
        record {
          log = k.log;
          served = k.served;
          out = k.out + 1;
          words =
              let next : (n + 1) % 2 ^ 64 ≡ (k.served + (k.out + 1)) % 2 ^ 64 = omega arith in
              ap (λ ws. slice_set ws 1 ((n + 1) % 2 ^ 64)) k.words ∙ ap (λ x. length k.log ∷ x ∷ k.served ∷ []) next;
          fits = k.fits;
          each =
              each_set caller start callers k.log (k.out + 1) k.served s.views id w
              (λ j u ne at_u.
              ⊎_elim
              (λ (e : u ≡ spent). inl e)
              (λ (f : Fits caller start callers k.log k.out k.served u). inr (record {
                known = f.known;
                seen = f.seen;
                told = f.told;
                range = f.range;
                own = f.own;
                numbered = f.numbered;
                given = λ e. let g = f.given e in (g.0, omega arith);
                turn = f.turn;
              }))
              (k.each j u at_u))
              (inr (record {
                known = mine.known;
                seen = mine.seen;
                told = mine.told;
                range = mine.range;
                own = mine.own;
                numbered = λ e. some_number;
                given = λ e. (small, omega arith);
                turn = λ e. absurd (off (sym outside ∙ e));
              }));
          tickets =
              tickets_draw s.views id v w at k.out k.served n idle refl refl low few.1 is
              (λ j u at_u waits. ((fit_waiting caller start callers k.log k.out k.served u waits (k.each j u at_u)).given waits).1)
              k.tickets;
          numbers = numbers_same callers s.views id v at w refl refl k.numbers;
          place = place_same fixed entries start k.log s.homes s.views id v w at refl (λ _. refl) k.place;
          named = k.named;
        },
        refl,
      )

  -- kind 2: where its turn has come, the seat takes the value, of which all is true that it knows
  pub looks : (me : Me (Option H) (View F E)) → me.0.waits ≡ true → me.0.inside ≡ false
      → Allows (Kept fixed entries caller start callers) slots id me 2 (λ n. n) (HasLooked fixed entries caller (step slots 2 0 0 m.none) me)
  looks me waits outside s k sized at small = dite (ℕ_discrete (slice_index s.words 2) me.0.ticket) come not_yet
    where
      served_is : slice_index s.words 2 ≡ k.served
      served_is = ap (λ ws. slice_index ws 2) k.words

      words_stay : slice_set s.words 2 (slice_index s.words 2) ≡ length k.log ∷ (k.served + k.out) % 2 ^ 64 ∷ k.served ∷ []
      words_stay = ap (λ ws. slice_set ws 2 (slice_index ws 2)) k.words

      mine : Fits caller start callers k.log k.out k.served me.0
      mine = fit_waiting caller start callers k.log k.out k.served me.0 waits (k.each id me.0 at)

      not_yet : slice_index s.words 2 ≢ me.0.ticket → CanStep (Kept fixed entries caller start callers) s id me 2 (slice_index s.words 2) (HasLooked fixed entries caller (step slots 2 0 0 m.none) me (slice_index s.words 2))
      not_yet ne = (
        me.0,
        keeps,
        tt,
        subst (λ vs. Kept fixed entries caller start callers (record { words = slice_set s.words 2 (slice_index s.words 2); homes = s.homes; views = vs })) (sym (set_again s.views id me.0 at))
            (record { log = k.log; served = k.served; out = k.out; words = words_stay; fits = k.fits; each = k.each; tickets = k.tickets; numbers = k.numbers; place = k.place; named = k.named }),
        ((λ e. absurd (ne e)), (λ _. refl)),
      )

      come : slice_index s.words 2 ≡ me.0.ticket → CanStep (Kept fixed entries caller start callers) s id me 2 (slice_index s.words 2) (HasLooked fixed entries caller (step slots 2 0 0 m.none) me (slice_index s.words 2))
      come is =
          ⊎_elim
          (λ (h : IsHome fixed entries start k.log s.homes s.views).
          let w = entered me.0 (entries h.value) in (
            w,
            takes 0 (Some h.value),
            ap (λ hs. get_elem? hs 0) h.home,
            record {
              log = k.log;
              served = k.served;
              out = k.out;
              words = words_stay;
              fits = k.fits;
              each =
                  each_set caller start callers k.log k.out k.served s.views id w (λ j u ne at_u. k.each j u at_u)
                  (inr (record {
                    known = mine.known;
                    seen = mine.seen;
                    told = mine.told;
                    range = mine.range;
                    own = mine.own;
                    numbered = mine.numbered;
                    given = mine.given;
                    turn = λ e. (waits, sym is ∙ served_is);
                  }));
              tickets = tickets_same s.views id me.0 w at k.out k.served refl (λ _. refl) k.tickets;
              numbers = numbers_same callers s.views id me.0 at w refl refl k.numbers;
              place = inr (record {
                away = ap (λ hs. slice_set hs 0 m.none) h.home;
                id = id;
                view = w;
                sits = set_here s.views id w (at_below s.views id me.0 at);
                inside = refl;
                listed = h.listed;
              });
              named = k.named;
            },
            (
              (λ e. (
                h.value,
                refl,
                record {
                  known = mine.known ∙ ap Some (sym h.known);
                  seen = subst (λ xs. StartsWith xs me.0.seen) (sym h.listed) mine.seen;
                  own = mine.own ∙ ap (own_of caller me.0.first me.0.count) (sym h.listed);
                },
              )),
              (λ ne. absurd (ne is)),
            ),
          ))
          (λ (h : IsOut k.log s.homes s.views).
          let same_seat : id ≡ h.id = served_once fixed entries caller start callers s k id h.id me.0 h.view at h.sits waits (sym is ∙ served_is) h.inside in
          let same : me.0 ≡ h.view = at_one s.views h.id me.0 h.view (subst (λ j. Sits s.views j me.0) same_seat at) h.sits in
          absurd (off (sym outside ∙ ap (λ (z : View F E). z.inside) same ∙ h.inside)))
          k.place

  -- kind 6: the list has one more entry, which is of the seat's own number
  pub counts_entry : (me : Me (Option H) (View F E)) (value : H) (e : E) → me.0.inside ≡ true → me.1 ≡ (0, Some value) ∷ []
      → caller e ≡ me.0.first → entries value ≡ me.0.taken ++ e ∷ [] → length (entries value) < 2 ^ 64
      → Allows (Kept fixed entries caller start callers) slots id me 0 (λ n. (n + 1) % 2 ^ 64) (HasCounted entries (step slots 0 1 0 m.none) me)
  counts_entry me value e inside carried by_seat added short s k sized at small =
      let v = me.0 in
      let xs = entries value in
      let w = counted v (carried_list entries me.1) in
      let held = holder fixed entries caller start callers s k id v at inside in
      let list_is : carried_list entries me.1 ≡ xs = ap (carried_list entries) carried in
      let grew : xs ≡ k.log ++ e ∷ [] = added ∙ ap (λ l. l ++ e ∷ []) held.1 in
      let mine = fit_inside caller start callers k.log k.out k.served v inside (k.each id v at) in
      let t = mine.turn inside in
      let some_number = mine.numbered t.0 in
      let new_is : drop (length v.taken) xs ≡ e ∷ [] = ap (drop (length v.taken)) added ∙ drop-append_seam v.taken (e ∷ []) in
      let length_is : length xs ≡ length k.log + 1 = ap length grew ∙ length-append k.log (e ∷ []) in
      let own_is : v.own ≡ own_of caller v.first v.count k.log = mine.own in
      let range_is = mine.range in (
        w,
        keeps,
        tt,
        record {
          log = xs;
          served = k.served;
          out = k.out;
          words =
              let before : slice_index s.words 0 ≡ length k.log = ap (λ ws. slice_index ws 0) k.words in
              let next : (slice_index s.words 0 + 1) % 2 ^ 64 ≡ length xs = omega arith in
              ap (λ ws. slice_set ws 0 ((slice_index s.words 0 + 1) % 2 ^ 64)) k.words ∙ ap (λ x. x ∷ (k.served + k.out) % 2 ^ 64 ∷ k.served ∷ []) next;
          fits = (k.fits.0, short, k.fits.2);
          each =
              each_set caller start callers xs k.out k.served s.views id w
              (λ j u ne at_u.
              ⊎_elim
              (λ (is : u ≡ spent). inl is)
              (λ (f : Fits caller start callers k.log k.out k.served u). inr (record {
                known = f.known;
                seen = subst (λ l. StartsWith l u.seen) (sym grew) (starts_more k.log (e ∷ []) u.seen f.seen);
                told = subst (λ l. StartsWith l u.told) (sym grew) (starts_more k.log (e ∷ []) u.told f.told);
                range = f.range;
                own = f.own ∙ sym (own_of-other caller u.first u.count k.log e (λ low high. ne (k.numbers.apart j id (caller e) u v at_u at (low, high) (omega arith, omega arith)))) ∙ ap (own_of caller u.first u.count) (sym grew);
                numbered = f.numbered;
                given = f.given;
                turn = f.turn;
              }))
              (k.each j u at_u))
              (inr (record {
                known = mine.known;
                seen = subst (λ l. StartsWith xs l) (sym list_is) (starts_whole xs);
                told = subst (λ l. StartsWith l v.told) (sym grew) (starts_more k.log (e ∷ []) v.told mine.told);
                range = mine.range;
                own =
                    ap (λ l. grown v.own (drop (length v.taken) l)) list_is ∙ ap (grown v.own) new_is ∙ ap (λ o. grown o (e ∷ [])) own_is
                    ∙ sym (own_of-grown caller v.first v.count k.log e some_number by_seat) ∙ ap (own_of caller v.first v.count) (sym grew);
                numbered = mine.numbered;
                given = mine.given;
                turn = mine.turn;
              }));
          tickets = tickets_same s.views id v w at k.out k.served refl (λ _. refl) k.tickets;
          numbers = numbers_same callers s.views id v at w refl refl k.numbers;
          place = inr (record {
            away = held.0;
            id = id;
            view = w;
            sits = set_here s.views id w (at_below s.views id v at);
            inside = inside;
            listed = list_is;
          });
          named = subst (All (λ y. caller y < callers)) (sym grew) (All-push (λ y. caller y < callers) k.log e k.named (omega arith));
        },
        refl,
      )

  -- kind 7 in a turn: the list has no more entries, and the seat has seen it
  pub counts_none : (me : Me (Option H) (View F E)) (value : H) → me.0.inside ≡ true → me.1 ≡ (0, Some value) ∷ [] → entries value ≡ me.0.taken
      → Allows (Kept fixed entries caller start callers) slots id me 0 (λ n. n) (HasCounted entries (step slots 0 0 0 m.none) me)
  counts_none me value inside carried same_list s k sized at small =
      let v = me.0 in
      let xs = carried_list entries me.1 in
      let w = counted v xs in
      let held = holder fixed entries caller start callers s k id v at inside in
      let list_is : xs ≡ v.taken = ap (carried_list entries) carried ∙ same_list in
      let log_is : xs ≡ k.log = list_is ∙ held.1 in
      let mine = fit_inside caller start callers k.log k.out k.served v inside (k.each id v at) in
      let none : drop (length v.taken) xs ≡ [] = ap (drop (length v.taken)) (list_is ∙ sym (append-nil v.taken)) ∙ drop-append_seam v.taken [] in (
        w,
        keeps,
        tt,
        record {
          log = k.log;
          served = k.served;
          out = k.out;
          words = ap (λ ws. slice_set ws 0 (slice_index ws 0)) k.words;
          fits = k.fits;
          each =
              each_set caller start callers k.log k.out k.served s.views id w (λ j u ne at_u. k.each j u at_u)
              (inr (record {
                known = mine.known;
                seen = subst (λ l. StartsWith k.log l) (sym log_is) (starts_whole k.log);
                told = mine.told;
                range = mine.range;
                own = ap (grown v.own) none ∙ grown-nil v.own ∙ mine.own;
                numbered = mine.numbered;
                given = mine.given;
                turn = mine.turn;
              }));
          tickets = tickets_same s.views id v w at k.out k.served refl (λ _. refl) k.tickets;
          numbers = numbers_same callers s.views id v at w refl refl k.numbers;
          place = inr (record {
            away = held.0;
            id = id;
            view = w;
            sits = set_here s.views id w (at_below s.views id v at);
            inside = inside;
            listed = log_is;
          });
          named = k.named;
        },
        refl,
      )

  -- kind 5: the value is back, and the next ticket is served
  pub serves : (me : Me (Option H) (View F E)) (value : H) → me.0.inside ≡ true → me.1 ≡ (0, Some value) ∷ [] → me.0.fixed ≡ Some (fixed value) → entries value ≡ me.0.taken
      → Allows (Kept fixed entries caller start callers) slots id me 2 (λ n. (n + 1) % 2 ^ 64) (HasServed (step slots 2 1 0 m.none) me)
  serves me value inside carried known listed s k sized at small =
      let v = me.0 in
      let w = unticketed v in
      let held = holder fixed entries caller start callers s k id v at inside in
      let mine = fit_inside caller start callers k.log k.out k.served v inside (k.each id v at) in
      let t = mine.turn inside in
      let low : k.served < 2 ^ 64 = k.fits.0 in
      let one = flag_on v t.0 in
      let part = part_le_total flag s.views id v at in
      let flags = k.tickets.flags in
      let some_out : 0 < k.out = omega arith in
      let served' = (k.served + 1) % 2 ^ 64 in
      let waiting : (j : ℕ) (u : View F E) → Sits s.views j u → u.waits ≡ true → u.ticket < 2 ^ 64
      = λ j u at_u waits. ((fit_waiting caller start callers k.log k.out k.served u waits (k.each j u at_u)).given waits).0 in (
        w,
        gives,
        tt,
        record {
          log = k.log;
          served = served';
          out = k.out - 1;
          words =
              let word : slice_index s.words 2 ≡ k.served = ap (λ ws. slice_index ws 2) k.words in
              let next : (slice_index s.words 2 + 1) % 2 ^ 64 ≡ served' = ap (λ x. (x + 1) % 2 ^ 64) word in
              let tickets : (k.served + k.out) % 2 ^ 64 ≡ (served' + (k.out - 1)) % 2 ^ 64 = omega arith in
              ap (λ ws. slice_set ws 2 ((slice_index s.words 2 + 1) % 2 ^ 64)) k.words ∙ (λ i. length k.log ∷ tickets i ∷ next i ∷ []);
          fits = (omega arith, k.fits.1, k.fits.2);
          each =
              each_set caller start callers k.log (k.out - 1) served' s.views id w
              (λ j u ne at_u.
              ⊎_elim
              (λ (is : u ≡ spent). inl is)
              (λ (f : Fits caller start callers k.log k.out k.served u). inr (record {
                known = f.known;
                seen = f.seen;
                told = f.told;
                range = f.range;
                own = f.own;
                numbered = f.numbered;
                given = λ waits.
                    let g = f.given waits in
                    let fits = g.0 in
                    let below = g.1 in
                    dite (ℕ_discrete (offset u.ticket k.served) 0)
                    (λ e. absurd (ne (k.tickets.once j id u v at_u at waits t.0 (offset_none u.ticket k.served fits low e ∙ sym t.1))))
                    (λ some_before. let next = offset_next u.ticket k.served fits low (omega arith) in (fits, omega arith));
                turn = λ inside_u. absurd (ne (sym (served_once fixed entries caller start callers s k id j v u at at_u t.0 t.1 inside_u)));
              }))
              (k.each j u at_u))
              (inr (record {
                known = mine.known;
                seen = mine.seen;
                told = mine.told;
                range = mine.range;
                own = mine.own;
                numbered = λ e. absurd (off e);
                given = λ e. absurd (off e);
                turn = λ e. absurd (off e);
              }));
          tickets = tickets_serve s.views id v w at k.out k.served t.0 t.1 refl low waiting k.tickets;
          numbers = numbers_same callers s.views id v at w refl refl k.numbers;
          place = inl (record {
            value = value;
            home = (λ i. put_back (held.0 i) (carried i));
            known = same_some (sym known ∙ mine.known);
            listed = listed ∙ held.1;
            nobody = λ j u at_u.
                ⊎_elim
                (λ (p : (j ≡ id) × (w ≡ u)). sym (ap (λ (z : View F E). z.inside) p.1))
                (λ (p : (j ≢ id) × Sits s.views j u).
                by_bool u.inside (λ inside_u. absurd (p.0 (sym (served_once fixed entries caller start callers s k id j v u at p.1 t.0 t.1 inside_u)))) (λ e. e))
                (at_set s.views id j w u at_u);
          });
          named = k.named;
        },
        refl,
      )
