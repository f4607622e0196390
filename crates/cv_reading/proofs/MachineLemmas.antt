-- The way of a machine through its tokens.
use Rattle.std.proofs.Common.{◌≡◌, ℕ, suc, ◌+◌, ◌≤◌, List, [], ◌∷◌, ◌++◌, length, take, drop, Option, Some}
use Rattle.std.proofs.Common.{None, Result, Ok, Err, option_and_then, refl, sym, ap, subst, ◌∙◌, arith}
use Rattle.std.proofs.Common.{append_assoc, append-nil, length-take-le, take-append-drop}
use Rattle.cv_reading.specs.Machines.{Machine, ended, one_further, further_by, from_there, run, after}
use Rattle.cv_reading.specs.Machines.{IsStuck, StepsAlike, GoAlike}

-- ---- tokens before an answer

-- no token more changes nothing
further_by-zero : {V : Type 0} (r : Result V ℕ) → further_by 0 r ≡ r
further_by-zero (Ok v) = refl
further_by-zero (Err at) = ap Err (omega arith)

-- n tokens and then one more
pub further_by-one_further : {V : Type 0} (n : ℕ) (r : Result V ℕ)
    → further_by n (one_further r) ≡ further_by (n + 1) r
further_by-one_further n (Ok v) = refl
further_by-one_further n (Err at) = ap Err (omega arith)

-- one token and then n more
one_further-further_by : {V : Type 0} (n : ℕ) (r : Result V ℕ)
    → one_further (further_by n r) ≡ further_by (suc n) r
one_further-further_by n (Ok v) = refl
one_further-further_by n (Err at) = ap Err (omega arith)

-- ---- fronts

-- two functions that agree give the same behind an option
same_behind : {S T : Type 0} (f g : S → Option T) (o : Option S) → ((s : S) → f s ≡ g s)
    → option_and_then f o ≡ option_and_then g o
same_behind f g None same = refl
same_behind f g (Some s) same = same s

and_then_assoc : {S T U : Type 0} (f : S → Option T) (g : T → Option U) (o : Option S)
    → option_and_then (λ s. option_and_then g (f s)) o ≡ option_and_then g (option_and_then f o)
and_then_assoc f g None = refl
and_then_assoc f g (Some s) = refl

-- the state behind two lists of tokens
after-append : {S A V : Type 0} (m : Machine S A V) (front w : List A) (s : S)
    → after m (front ++ w) s ≡ option_and_then (after m w) (after m front s)
after-append m [] w s = refl
after-append m (a ∷ front) w s =
    same_behind (after m (front ++ w)) (λ t. option_and_then (after m w) (after m front t)) (m.step s a)
    (after-append m front w)
    ∙ and_then_assoc (after m front) (after m w) (m.step s a)

-- one token more
pub after_push : {S A V : Type 0} (m : Machine S A V) (front : List A) (s : S) (a : A) (t : S)
    → after m front s ≡ Some t → after m (front ++ a ∷ []) s ≡ m.step t a
after_push m front s a t e =
    after-append m front (a ∷ []) s ∙ ap (option_and_then (after m (a ∷ []))) e ∙ only (m.step t a)
  where
    only : (o : Option _) → option_and_then (after m []) o ≡ o
    only None = refl
    only (Some u) = refl

kept_step : {S A V : Type 0} (m : Machine S A V) (w : List A) (t : S) (P : Type 0) (o : Option S)
    → option_and_then (after m w) o ≡ Some t → ((u : S) → o ≡ Some u → after m w u ≡ Some t → P) → P
kept_step m w t P None e behind = absurd (cc)
kept_step m w t P (Some u) e behind = behind u refl e

-- what each token keeps of the tokens so far and the state holds of the whole way
pub kept_along : {S A V : Type 0} (m : Machine S A V) (R : List A → S → Type 0)
    → ((front : List A) (s : S) (a : A) (t : S) → R front s → m.step s a ≡ Some t → R (front ++ a ∷ []) t)
    → (w front : List A) (s t : S) → R front s → after m w s ≡ Some t → R (front ++ w) t
kept_along m R keeps [] front s t h e =
    let same : s ≡ t = cc in
    rw append-nil (subst (R front) same h)
kept_along m R keeps (a ∷ w) front s t h e =
    kept_step m w t (R (front ++ a ∷ w) t) (m.step s a) e
    (λ u p f. subst (λ x. R x t) (append_assoc front (a ∷ []) w)
    (kept_along m R keeps w (front ++ a ∷ []) u t (keeps front s a u h p) f))

-- ---- the answer behind a front

step_behind : {S A V : Type 0} (m : Machine S A V) (front w : List A) (t : S) (o : Option S)
    → option_and_then (after m front) o ≡ Some t
    → ((u : S) → after m front u ≡ Some t → run m (front ++ w) u ≡ further_by (length front) (run m w t))
    → from_there (run m (front ++ w)) o ≡ further_by (suc (length front)) (run m w t)
step_behind m front w t None e behind = absurd (cc)
step_behind m front w t (Some u) e behind =
    ap one_further (behind u e) ∙ one_further-further_by (length front) (run m w t)

-- the answer to a text is that to what is left behind a front, with the front's length added to its place
run_behind : {S A V : Type 0} (m : Machine S A V) (front w : List A) (s t : S) → after m front s ≡ Some t
    → run m (front ++ w) s ≡ further_by (length front) (run m w t)
run_behind m [] w s t e = let same : s ≡ t = cc in ap (run m w) same ∙ sym (further_by-zero (run m w t))
run_behind m (a ∷ front) w s t e = step_behind m front w t (m.step s a) e (λ u f. run_behind m front w u t f)

-- ---- where a machine stops

stuck_here : {S A V : Type 0} (m : Machine S A V) (w : List A) (t : S) → IsStuck m t w → run m w t ≡ Err 0
stuck_here m [] t h = ap ended h
stuck_here m (a ∷ w) t h = ap (from_there (run m w)) h

-- it answers the place at which it is stuck
pub stuck_run : {S A V : Type 0} (m : Machine S A V) (w : List A) (at : ℕ) (s t : S) → at ≤ length w
    → after m (take at w) s ≡ Some t → IsStuck m t (drop at w) → run m w s ≡ Err at
stuck_run m w at s t within e h =
    let parts = ap (λ x. run m x s) (sym (take-append-drop at w)) in
    let front = run_behind m (take at w) (drop at w) s t e in
    let here = ap (further_by (length (take at w))) (stuck_here m (drop at w) t h) in
    let place : length (take at w) + 0 ≡ at = omega (arith, length-take-le at w within) in
    parts ∙ front ∙ here ∙ ap Err place

-- the way to the place at which it is stuck, or to the end
pub record IsStuckAt {S A V : Type 0} (m : Machine S A V) (w : List A) (s : S) (at : ℕ) : Type 0 where
  pub within : at ≤ length w
  pub state : S
  pub reached : after m (take at w) s ≡ Some state
  pub stuck : IsStuck m state (drop at w)

abbrev IsRun : {S A V : Type 0} → Machine S A V → List A → S → Result V ℕ → Type 0
IsRun {S = S} m w s (Ok v) = (t : S) × (after m w s ≡ Some t) × (m.ends t ≡ Some v)
IsRun m w s (Err at) = IsStuckAt m w s at

run_end : {S A V : Type 0} (m : Machine S A V) (s : S) (o : Option V) → m.ends s ≡ o → IsRun m [] s (ended o)
run_end m s None e = record { within = omega arith; state = s; reached = refl; stuck = e }
run_end m s (Some v) e = (s, refl, e)

run_on : {S A V : Type 0} (m : Machine S A V) (a : A) (w : List A) (s u : S) → m.step s a ≡ Some u
    → (r : Result V ℕ) → IsRun m w u r → IsRun m (a ∷ w) s (one_further r)
run_on m a w s u e (Ok v) h = (h.0, ap (option_and_then (after m w)) e ∙ h.1, h.2)
run_on m a w s u e (Err at) h = record {
  within = let k = h.within in omega arith;
  state = h.state;
  reached = ap (option_and_then (after m (take at w))) e ∙ h.reached;
  stuck = h.stuck;
}

run_step : {S A V : Type 0} (m : Machine S A V) (a : A) (w : List A) (s : S) (o : Option S) → m.step s a ≡ o
    → ((t : S) → IsRun m w t (run m w t)) → IsRun m (a ∷ w) s (from_there (run m w) o)
run_step m a w s None e behind = record { within = omega arith; state = s; reached = refl; stuck = e }
run_step m a w s (Some u) e behind = run_on m a w s u e (run m w u) (behind u)

is_run : {S A V : Type 0} (m : Machine S A V) (w : List A) (s : S) → IsRun m w s (run m w s)
is_run m [] s = run_end m s (m.ends s) refl
is_run m (a ∷ w) s = run_step m a w s (m.step s a) refl (is_run m w)

-- where the answer is a place, the machine is stuck there
pub stops : {S A V : Type 0} (m : Machine S A V) (w : List A) (s : S) (at : ℕ) → run m w s ≡ Err at
    → IsStuckAt m w s at
stops m w s at e = subst (IsRun m w s) e (is_run m w s)

-- where it is a value, the machine comes to a state that ends with it
pub ends_at : {S A V : Type 0} (m : Machine S A V) (w : List A) (s : S) (v : V) → run m w s ≡ Ok v
    → (t : S) × (after m w s ≡ Some t) × (m.ends t ≡ Some v)
ends_at m w s v e = subst (IsRun m w s) e (is_run m w s)

-- ---- two machines

same_step : {S T V : Type 0} (f : S → Result V ℕ) (g : T → Result V ℕ) (R : S → T → Type 0) (o : Option S)
    (p : Option T) → StepsAlike R o p → ((s : S) (t : T) → R s t → f s ≡ g t)
    → from_there f o ≡ from_there g p
same_step f g R None None h behind = refl
same_step f g R (Some s) (Some t) h behind = ap one_further (behind s t h)
same_step f g R (Some s) None h behind = absurd h
same_step f g R None (Some t) h behind = absurd h

-- machines whose states stay related answer alike
pub same_run : {S T A V : Type 0} (n : ℕ) (R : ℕ → S → T → Type 0) (m : Machine S A V) (k : Machine T A V)
    → GoAlike n R m k → (w : List A) (i : ℕ) (s : S) (t : T) → i + length w ≤ n → R i s t
    → run m w s ≡ run k w t
same_run n R m k alike [] i s t fits h = ap ended (alike.ends i s t (omega arith) h)
same_run n R m k alike (a ∷ w) i s t fits h =
    same_step (run m w) (run k w) (R (suc i)) (m.step s a) (k.step t a) (alike.step i s t a (omega arith) h)
    (λ x y q. same_run n R m k alike w (suc i) x y (omega arith) q)
