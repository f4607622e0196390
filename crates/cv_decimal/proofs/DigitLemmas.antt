-- The loop over the digits at the front of a text, on either side of the point.
use Rattle.std.proofs.Common.{◌≡◌, ℕ, zero, suc, ◌+◌, ◌*◌, ◌<◌, ◌≤◌, ◌-◌, Bool, true, false, if◌then◌else◌}
use Rattle.std.proofs.Common.{nat_lt, cond, List, ◌∷◌, length, drop, get_or, Some, option_map, refl, sym, ap}
use Rattle.std.proofs.Common.{subst, ◌∙◌, arith}
use Rattle.std.proofs.Math.Seq.{drop-cons}
use Rattle.std.proofs.lemmas.Bool.Decides.{nat_tests}
use Rattle.std.specs.List.{prefix_len}
use Rattle.cv_reading.specs.Machines.{run, one_further, further_by, from_there}
use Rattle.cv_reading.proofs.MachineLemmas.{further_by-one_further}
use Rattle.cv_decimal.specs.declared.kept.Kept.{Kept}
use Rattle.cv_number.specs.declared.mark.Mark.TheVariants.{Digit}
use Rattle.cv_number.specs.declared.place.Place.{Place}
use Rattle.cv_number.specs.declared.place.Place.TheVariants.{Whole, Dotted}
use Rattle.cv_number.specs.declared.place.Role.{Role}
use Rattle.cv_number.specs.declared.place.Role.TheVariants.{WholeDigit, RestDigit}
use Rattle.cv_number.specs.Mark.{is_digit, mark_of}
use Rattle.cv_number.specs.Place.{next_of}
use Rattle.cv_decimal.specs.Kept.{with_digit, with_places, kept_role, keeping_reader, answer_at, Goes}

-- ---- one byte

-- a digit stands for itself
pub mark_is : (b : ℕ) → is_digit b ≡ true → mark_of b ≡ Digit (b - 48)
mark_is b e = rw e refl

digit_small : (b d : ℕ) → true ≡ is_digit b → d ≡ b - 48 → d < 10
digit_small b d e value = grind (arith, nat_tests)

one_step : (b : ℕ) (w : List ℕ) (q r : Place) (l : Kept) (role : Role)
    → next_of q (mark_of b) ≡ Some (r, role)
    → answer_at q l (b ∷ w) ≡ one_further (answer_at r (kept_role role l) w)
one_step b w q r l role next =
    ap (λ o. from_there (run keeping_reader w)
    (option_map (λ (x : Place × Role). record { place = x.0; parts = kept_role x.1 l }) o)) next

-- one byte more
goes_on : (text : List ℕ) (p q r : Place) (k l : Kept) (role : Role) (i : ℕ) → i < length text
    → next_of q (mark_of (get_or text i 0)) ≡ Some (r, role)
    → Goes text p k i q l → Goes text p k (i + 1) r (kept_role role l)
goes_on text p q r k l role i within next goes =
    let next_place : suc i ≡ i + 1 = omega arith in
    let left = drop-cons text i 0 within ∙ ap (λ n. get_or text i 0 ∷ drop n text) next_place in
    goes
    ∙ ap (λ w. further_by i (answer_at q l w)) left
    ∙ ap (further_by i) (one_step (get_or text i 0) (drop (i + 1) text) q r l role next)
    ∙ further_by-one_further i (answer_at r (kept_role role l) (drop (i + 1) text))

-- ---- the digits at the front

-- behind i digits: they were kept, the digits go on with those that are left, and what is left gives the
-- answer on
-- either side of the point
pub record Kept_digits (text : List ℕ) (old now : Kept) (i : ℕ) : Type 0 where
  pub few : now.digits < 2000000000000000000
  pub dropped : now.dropped ≤ old.dropped + i
  pub places : now.places ≡ old.places
  pub front : prefix_len is_digit text ≡ i + prefix_len is_digit (drop i text)
  pub begins : 0 < i → (d : ℕ) × (mark_of (get_or text 0 0) ≡ Digit d)
  pub whole : Goes text Whole old i Whole now
  pub rest : Goes text Dotted old i Dotted (with_places i now)

-- a digit more, where it is known whether it is kept or only counted
abbrev digit_if : Bool → ℕ → Kept → Kept
digit_if c d k = if c then record k { digits = 10 * k.digits + d } else record k { dropped = k.dropped + 1 }

few_still : (c : Bool) (d : ℕ) (k : Kept) → nat_lt k.digits 100000000000000000 ≡ c → d < 10
    → k.digits < 2000000000000000000
    → (digit_if c d k).digits < 2000000000000000000
few_still true d k e small few = grind arith
few_still false d k e small few = few

dropped_still : (c : Bool) (d m i : ℕ) (k : Kept) → k.dropped ≤ m + i → (digit_if c d k).dropped ≤ m + (i + 1)
dropped_still true d m i k h = omega arith
dropped_still false d m i k h = omega arith

places_still : (c : Bool) (d : ℕ) (k : Kept) → (digit_if c d k).places ≡ k.places
places_still true d k = refl
places_still false d k = refl

places_apart : (c : Bool) (d i : ℕ) (k : Kept)
    → record (digit_if c d (with_places i k)) { places = k.places + i + 1 }
    ≡ with_places (i + 1) (digit_if c d k)
places_apart true d i k = ap (λ n. record k { digits = 10 * k.digits + d; places = n }) (omega arith)
places_apart false d i k = ap (λ n. record k { dropped = k.dropped + 1; places = n }) (omega arith)

-- the digits at the front go on
front_step : (b : ℕ) (w : List ℕ) → true ≡ is_digit b
    → prefix_len is_digit (b ∷ w) ≡ 1 + prefix_len is_digit w
front_step b w e = ap (λ t. cond t (1 + prefix_len is_digit w) 0) (sym e)

front_still : (text : List ℕ) (i : ℕ) → i < length text → true ≡ is_digit (get_or text i 0)
    → prefix_len is_digit text ≡ i + prefix_len is_digit (drop i text)
    → prefix_len is_digit text ≡ (i + 1) + prefix_len is_digit (drop (i + 1) text)
front_still text i within digit front =
    let next : suc i ≡ i + 1 = omega arith in
    let left = drop-cons text i 0 within ∙ ap (λ n. get_or text i 0 ∷ drop n text) next in
    let step = ap (prefix_len is_digit) left ∙ front_step (get_or text i 0) (drop (i + 1) text) digit in
    omega (arith, front, step)

-- they end at a byte that is no digit
pub front_at_other : (text : List ℕ) (i : ℕ) → i < length text → false ≡ is_digit (get_or text i 0)
    → prefix_len is_digit text ≡ i + prefix_len is_digit (drop i text)
    → i ≡ prefix_len is_digit text
front_at_other text i within other front =
    let left = drop-cons text i 0 within in
    let none = ap (prefix_len is_digit) left
    ∙ ap (λ t. cond t (1 + prefix_len is_digit (drop (suc i) text)) 0) (sym other) in
    omega (arith, front, none)

begins_still : (text : List ℕ) (i d : ℕ) → mark_of (get_or text i 0) ≡ Digit d
    → (0 < i → (e : ℕ) × (mark_of (get_or text 0 0) ≡ Digit e))
    → (e : ℕ) × (mark_of (get_or text 0 0) ≡ Digit e)
begins_still text zero d mark h = (d, mark)
begins_still text (suc i) d mark h = h (omega arith)

-- a digit more is kept, or counted
pub digit_more : (text : List ℕ) (old now : Kept) (i d : ℕ) → i < length text
    → true ≡ is_digit (get_or text i 0) → d ≡ get_or text i 0 - 48 → Kept_digits text old now i
    → Kept_digits text old (with_digit d now) (i + 1)
digit_more text old now i d within digit value h =
    let mark = mark_is (get_or text i 0) (sym digit) ∙ ap Digit (sym value) in
    let small : d < 10 = digit_small (get_or text i 0) d digit value in
    let more = nat_lt now.digits 100000000000000000 in
    record {
      few = few_still more d now refl small h.few;
      dropped = dropped_still more d old.dropped i now h.dropped;
      places = places_still more d now ∙ h.places;
      front = front_still text i within digit h.front;
      begins = λ _. begins_still text i d mark h.begins;
      whole = goes_on text Whole Whole Whole old now (WholeDigit d) i within
          (ap (next_of Whole) mark) h.whole;
      rest = subst (λ k. Goes text Dotted old (i + 1) Dotted k) (places_apart more d i now)
          (goes_on text Dotted Dotted Dotted old (with_places i now) (RestDigit d) i within
          (ap (next_of Dotted) mark) h.rest);
    }

-- a first digit is read alike at each place before the point
alike : (text : List ℕ) (d : ℕ) (p : Place) (k : Kept) → 0 < length text → mark_of (get_or text 0 0) ≡ Digit d
    → next_of p (Digit d) ≡ Some (Whole, WholeDigit d)
    → answer_at p k text ≡ answer_at Whole k text
alike text d p k some mark next =
    let left : text ≡ get_or text 0 0 ∷ drop 1 text = drop-cons text 0 0 some in
    let here = λ (q : Place) (e : next_of q (Digit d) ≡ Some (Whole, WholeDigit d)).
    ap (answer_at q k) left
    ∙ one_step (get_or text 0 0) (drop 1 text) q Whole k (WholeDigit d) (ap (next_of q) mark ∙ e) in
    here p next ∙ sym (here Whole refl)

-- digits that are read behind a first one are read from any place at which a first digit can stand
pub goes_first : (text : List ℕ) (old now : Kept) (i : ℕ) (p : Place) → 0 < i → i ≤ length text
    → ((d : ℕ) → next_of p (Digit d) ≡ Some (Whole, WholeDigit d))
    → Kept_digits text old now i → Goes text p old i Whole now
goes_first text old now i p some within next h =
    let first = h.begins some in
    alike text first.0 p old (omega arith) first.1 (next first.0) ∙ h.whole
