-- Machines under a watch: the first refusal, the grammar's before a limit's at one token.
use Rattle.std.proofs.Common.{◌≡◌, ℕ, suc, ◌+◌, List, [], ◌∷◌, ◌++◌, length, take, drop, Option, Some, None}
use Rattle.std.proofs.Common.{Result, Ok, Err, IfSome, option_and_then, refl, sym, ap, ◌∙◌, arith}
use Rattle.std.proofs.Common.{length-take-le, take-append-drop}
use Rattle.cv_reading.specs.Machines.{Machine, ended, one_further, from_there, run, after, IsStuck}
use Rattle.cv_reading.specs.Watches.{Watch, Stop, StopAt, stop_one_further, stop_further_by, watched_end}
use Rattle.cv_reading.specs.Watches.{watched_step, watched, IsUnlimited, RefusesFor, StopsFor, IsFirstStop}
use Rattle.cv_reading.specs.Watches.{IsWatched}
use Rattle.cv_reading.proofs.MachineLemmas.{stuck_run}

-- ---- tokens before an answer

-- no token more changes nothing
stop_further_by-zero : {V C : Type 0} (r : Result V (Stop C)) → stop_further_by 0 r ≡ r
stop_further_by-zero (Ok v) = refl
stop_further_by-zero (Err (StopAt at c)) = ap (λ n. Err (StopAt n c)) (omega arith)

-- n tokens and then one more; for loops over a watched machine, as the lemma of the plain one is
pub stop_further_by-one_further : {V C : Type 0} (n : ℕ) (r : Result V (Stop C))
    → stop_further_by n (stop_one_further r) ≡ stop_further_by (n + 1) r
stop_further_by-one_further n (Ok v) = refl
stop_further_by-one_further n (Err (StopAt at c)) = ap (λ k. Err (StopAt k c)) (omega arith)

stop_one_further-further_by : {V C : Type 0} (n : ℕ) (r : Result V (Stop C))
    → stop_one_further (stop_further_by n r) ≡ stop_further_by (suc n) r
stop_one_further-further_by n (Ok v) = refl
stop_one_further-further_by n (Err (StopAt at c)) = ap (λ k. Err (StopAt k c)) (omega arith)

-- ---- what the answer says

end_watched : {S A V C : Type 0} (m : Machine S A V) (k : Watch S A C) (s : S) (o : Option V) → m.ends s ≡ o
    → IsWatched m k [] s (watched_end (k.early s) o)
end_watched m k s None e =
    record { within = omega arith; state = s; reached = refl; unlimited = tt; stops = (e, refl) }
end_watched m k s (Some v) e = (ap ended e, tt)

on_watched : {S A V C : Type 0} (m : Machine S A V) (k : Watch S A C) (a : A) (w : List A) (s t : S)
    → m.step s a ≡ Some t → k.limit s a ≡ None → (r : Result V (Stop C)) → IsWatched m k w t r
    → IsWatched m k (a ∷ w) s (stop_one_further r)
on_watched m k a w s t e l (Ok v) h =
    (ap (from_there (run m w)) e ∙ ap one_further h.0, rw e (l, h.1))
on_watched m k a w s t e l (Err (StopAt at c)) h = record {
  within = let q = h.within in omega arith;
  state = h.state;
  reached = ap (option_and_then (after m (take at w))) e ∙ h.reached;
  unlimited = rw e (l, h.unlimited);
  stops = h.stops;
}

step_watched : {S A V C : Type 0} (m : Machine S A V) (k : Watch S A C) (a : A) (w : List A) (s : S)
    (l : Option C) (o : Option S) → m.step s a ≡ o → k.limit s a ≡ l
    → ((t : S) → IsWatched m k w t (watched m k w t))
    → IsWatched m k (a ∷ w) s (watched_step (watched m k w) (k.cause s a) l o)
step_watched m k a w s l None e f behind =
    record { within = omega arith; state = s; reached = refl; unlimited = tt; stops = rw e refl }
step_watched m k a w s (Some c) (Some t) e f behind =
    record { within = omega arith; state = s; reached = refl; unlimited = tt; stops = rw e f }
step_watched m k a w s None (Some t) e f behind = on_watched m k a w s t e f (watched m k w t) (behind t)

-- the answer is the value where no limit is met, and else the first refusal
pub is_watched : {S A V C : Type 0} (m : Machine S A V) (k : Watch S A C) (w : List A) (s : S)
    → IsWatched m k w s (watched m k w s)
is_watched m k [] s = end_watched m k s (m.ends s) refl
is_watched m k (a ∷ w) s = step_watched m k a w s (k.limit s a) (m.step s a) refl refl (is_watched m k w)

-- ---- behind a front

step_watched_behind : {S A V C : Type 0} (m : Machine S A V) (k : Watch S A C) (front w : List A) (t : S)
    (cause : C) (l : Option C) (o : Option S)
    → option_and_then (after m front) o ≡ Some t → IfSome o (λ u. (l ≡ None) × IsUnlimited m k front u)
    → ((u : S) → after m front u ≡ Some t → IsUnlimited m k front u
    → watched m k (front ++ w) u ≡ stop_further_by (length front) (watched m k w t))
    → watched_step (watched m k (front ++ w)) cause l o
    ≡ stop_further_by (suc (length front)) (watched m k w t)
step_watched_behind m k front w t cause l None e free behind = absurd (cc)
step_watched_behind m k front w t cause l (Some u) e free behind =
    ap (λ x. watched_step (watched m k (front ++ w)) cause x (Some u)) free.0
    ∙ ap stop_one_further (behind u e free.1)
    ∙ stop_one_further-further_by (length front) (watched m k w t)

-- the answer to a text is that to what is left behind a front that meets no limit
watched_behind : {S A V C : Type 0} (m : Machine S A V) (k : Watch S A C) (front w : List A) (s t : S)
    → after m front s ≡ Some t → IsUnlimited m k front s
    → watched m k (front ++ w) s ≡ stop_further_by (length front) (watched m k w t)
watched_behind m k [] w s t e free =
    let same : s ≡ t = cc in ap (watched m k w) same ∙ sym (stop_further_by-zero (watched m k w t))
watched_behind m k (a ∷ front) w s t e free =
    step_watched_behind m k front w t (k.cause s a) (k.limit s a) (m.step s a) e free
    (λ u f q. watched_behind m k front w u t f q)

-- ---- there is one such answer

refuses_here : {S V C : Type 0} (answer : S → Result V (Stop C)) (cause : C) (l : Option C) (o : Option S)
    (c : C) → RefusesFor cause l o c → watched_step answer cause l o ≡ Err (StopAt 0 c)
refuses_here answer cause l None c h = ap (λ x. Err (StopAt 0 x)) (sym h)
refuses_here answer cause l (Some t) c h = ap (λ x. watched_step answer cause x (Some t)) h

stops_here : {S A V C : Type 0} (m : Machine S A V) (k : Watch S A C) (w : List A) (t : S) (c : C)
    → StopsFor m k t w c → watched m k w t ≡ Err (StopAt 0 c)
stops_here m k [] t c h = ap (watched_end (k.early t)) h.0 ∙ ap (λ x. Err (StopAt 0 x)) (sym h.1)
stops_here m k (a ∷ w) t c h = refuses_here (watched m k w) (k.cause t a) (k.limit t a) (m.step t a) c h

stop_watched : {S A V C : Type 0} (m : Machine S A V) (k : Watch S A C) (w : List A) (s : S) (at : ℕ) (c : C)
    → IsFirstStop m k w s at c → watched m k w s ≡ Err (StopAt at c)
stop_watched m k w s at c h =
    let parts = ap (λ x. watched m k x s) (sym (take-append-drop at w)) in
    let front = watched_behind m k (take at w) (drop at w) s h.state h.reached h.unlimited in
    let here = ap (stop_further_by (length (take at w))) (stops_here m k (drop at w) h.state c h.stops) in
    let place : length (take at w) + 0 ≡ at = omega (arith, length-take-le at w h.within) in
    parts ∙ front ∙ here ∙ ap (λ n. Err (StopAt n c)) place

-- where no limit is met, the answer is the plain run's; o is `m.step s a`
free_step : {S A V C : Type 0} (m : Machine S A V) (k : Watch S A C) (w : List A) (cause : C) (l : Option C)
    (v : V) (o : Option S)
    → from_there (run m w) o ≡ Ok v → IfSome o (λ t. (l ≡ None) × IsUnlimited m k w t)
    → ((t : S) → run m w t ≡ Ok v → IsUnlimited m k w t → watched m k w t ≡ Ok v)
    → watched_step (watched m k w) cause l o ≡ Ok v
free_step m k w cause l v None e free behind = absurd (cc)
free_step m k w cause l v (Some t) e free behind =
    ap (λ x. watched_step (watched m k w) cause x (Some t)) free.0
    ∙ ap stop_one_further (behind t (was (run m w t) e) free.1)
  where
    was : (r : Result _ ℕ) → one_further r ≡ Ok v → r ≡ Ok v
    was (Ok u) h = h
    was (Err n) h = absurd (cc)

free_end : {V C : Type 0} (early : C) (v : V) (o : Option V) → ended o ≡ Ok v → watched_end early o ≡ Ok v
free_end early v None e = absurd (cc)
free_end early v (Some u) e = let same : u ≡ v = cc in ap Ok same

free_watched : {S A V C : Type 0} (m : Machine S A V) (k : Watch S A C) (w : List A) (s : S) (v : V)
    → run m w s ≡ Ok v → IsUnlimited m k w s → watched m k w s ≡ Ok v
free_watched m k [] s v e free = free_end (k.early s) v (m.ends s) e
free_watched m k (a ∷ w) s v e free =
    free_step m k w (k.cause s a) (k.limit s a) v (m.step s a) e free (λ t f q. free_watched m k w t v f q)

-- what an answer says of the text is said of no other answer. Nothing here cites it: it is why `IsWatched`
-- says
-- all of an answer, and serves a reader whose loop isn't the watched machine.
pub watched_only : {S A V C : Type 0} (m : Machine S A V) (k : Watch S A C) (w : List A) (s : S)
    (r : Result V (Stop C)) → IsWatched m k w s r → watched m k w s ≡ r
watched_only m k w s (Ok v) h = free_watched m k w s v h.0 h.1
watched_only m k w s (Err (StopAt at c)) h = stop_watched m k w s at c h

-- at a token that can't stand, and at an end that comes too early, the plain run stops too
pub stuck_at_stop : {S A V C : Type 0} (m : Machine S A V) (k : Watch S A C) (w : List A) (s : S) (at : ℕ)
    (c : C) (stop : IsFirstStop m k w s at c) → IsStuck m stop.state (drop at w) → run m w s ≡ Err at
stuck_at_stop m k w s at c stop stuck = stuck_run m w at s stop.state stop.within stop.reached stuck
