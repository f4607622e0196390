-- Where the machine stops, the token is the leftmost that is refused, for the cause that it names.
use Rattle.std.proofs.Common.{◌≡◌, ℕ, zero, suc, ◌<◌, ℤ, nat_le, Bool, true, false, if◌then◌else◌, List, []}
use Rattle.std.proofs.Common.{◌∷◌, ◌++◌, length, take, drop, slice_get, codes, Option, Some, None, IsSome}
use Rattle.std.proofs.Common.{option_and_then, refl, sym, ap, subst, ◌∙◌, arith}
use Rattle.cv_number.specs.Reader.{decimal_of}
use Rattle.cv_reading.specs.Machines.{after, IsStuck}
use Rattle.cv_reading.specs.Readings.{Begins, IsFirstWrong}
use Rattle.cv_reading.specs.Watches.{RefusesFor, StopsFor, IsFirstStop}
use Rattle.cv_reading.proofs.ReadingLemmas.{begins_behind, leads_begun}
use Rattle.cv_reading.proofs.MachineLemmas.{after_push}
use Rattle.cv_reading.proofs.WatchLemmas.{stuck_at_stop}
use Rattle.cv_number.specs.declared.fixed.Fixed.TheVariants.{Value, High, Low, NotNumber}
use Rattle.cv_wkt.specs.declared.kind.Word.TheVariants.{Point, Collection}
use Rattle.cv_wkt.specs.declared.kind.Kind.{Kind}
use Rattle.cv_wkt.specs.declared.kind.Kind.TheVariants.{Open, Close, Comma, Semicolon, Equals, Srid, Empty}
use Rattle.cv_wkt.specs.declared.kind.Kind.TheVariants.{Tag, Name, Curve, Number, Other}
use Rattle.cv_wkt.specs.declared.place.Frame.{Frame}
use Rattle.cv_wkt.specs.declared.place.Sort.TheVariants.{Ordinates, Member, Group, Geometry}
use Rattle.cv_wkt.specs.declared.place.Now.{Now}
use Rattle.cv_wkt.specs.declared.place.Now.TheVariants.{Start, BehindSrid, BehindEquals, BehindDigits, Begin}
use Rattle.cv_wkt.specs.declared.place.Now.TheVariants.{BehindWord, BehindX, Behind}
use Rattle.cv_wkt.specs.declared.place.Cause.{Cause}
use Rattle.cv_wkt.specs.declared.place.Cause.TheVariants.{Unexpected, Curved, Beyond, Deep, Full}
use Rattle.cv_wkt.specs.Kind.{kind_of, word_kind, keyword_kind, geometry_kind}
use Rattle.cv_wkt.specs.Grammar.{Spells}
use Rattle.cv_wkt.specs.Reader.{State, start, behind_item, stepped, wkt_reader}
use Rattle.cv_wkt.specs.Refusals.{not_a_name, not_a_coordinate, cause_of, collections, if_deep, if_full}
use Rattle.cv_wkt.specs.Refusals.{limit_of, wkt_watch}
use Rattle.cv_wkt.specs.Leftmost.{told, limit_behind, IsFar, IsLimit, RefusedFor, IsRefused}
use Rattle.cv_wkt.proofs.GrammarLemmas.{Rest, reads, spelt, wkt_reads}
use Rattle.cv_wkt.proofs.LimitLemmas.{limit_there, free_before}

-- ---- fronts

front_spelt : (front : List (List ℕ)) → Begins (Rest start) front → Begins Spells front
front_spelt front (w, v, h) = (w, v, (spelt (front ++ w) v).0 h)

spelt_front : (front : List (List ℕ)) → Begins Spells front → Begins (Rest start) front
spelt_front front (w, v, h) = (w, v, (spelt (front ++ w) v).1 h)

-- a front that leads to a state begins a text
begun : (front : List (List ℕ)) (s : State) → after wkt_reader front start ≡ Some s → Begins Spells front
begun front s e = front_spelt front (begins_behind wkt_reader Rest reads front start s e)

abbrev Has : Option State → Type 0
Has None = ⊥
Has (Some t) = Unit {0}

has : (o : Option State) → IsSome o → Has o
has None h = absurd (cc)
has (Some t) h = tt

some_is : (o : Option State) → Has o → (t : State) × (o ≡ Some t)
some_is None h = absurd h
some_is (Some t) h = (t, refl)

-- a token could stand behind a front just where the machine has a step
could_stand : (front : List (List ℕ)) (s : State) (b : List ℕ) → after wkt_reader front start ≡ Some s
    → Has (wkt_reader.step s b) → Begins Spells (front ++ b ∷ [])
could_stand front s b e h =
    let (t, q) = some_is (wkt_reader.step s b) h in
    begun (front ++ b ∷ []) t (after_push wkt_reader front start b s e ∙ q)

can_stand : (front : List (List ℕ)) (s : State) (b : List ℕ) → after wkt_reader front start ≡ Some s
    → Begins Spells (front ++ b ∷ []) → Has (wkt_reader.step s b)
can_stand front s b e h =
    subst Has (after_push wkt_reader front start b s e)
    (has (after wkt_reader (front ++ b ∷ []) start)
    (leads_begun wkt_reader Rest reads (front ++ b ∷ []) start (spelt_front (front ++ b ∷ []) h)))

-- ---- the causes of a token that can't stand

no_name : (n : ℕ) (s : State) → Has (stepped (Behind n) (Name Point false) s) → ⊥
no_name zero s h = by_frames s.frames h
  where
    by_frames : (fs : List Frame) → Has (behind_item fs (Name Point false) s) → ⊥
    by_frames [] h = h
    by_frames (f ∷ fs) h = h
no_name (suc n) s h = by_frames s.frames h
  where
    by_frames : (fs : List Frame) → Has (behind_item fs (Name Point false) s) → ⊥
    by_frames [] h = h
    by_frames (f ∷ fs) h = h

-- the word of a curve is unexpected only where POINT could not stand
curve_not : (p : Now) (s : State) → cause_of p Curve ≡ Unexpected → Has (stepped p (Name Point false) s) → ⊥
curve_not Start s e h = absurd (cc)
curve_not (Begin Geometry) s e h = absurd (cc)
curve_not (Begin (Group f)) s e h = h
curve_not (Begin Ordinates) s e h = h
curve_not (Begin Member) s e h = h
curve_not BehindSrid s e h = h
curve_not BehindEquals s e h = h
curve_not BehindDigits s e h = h
curve_not (BehindWord f) s e h = h
curve_not BehindX s e h = h
curve_not (Behind n) s e h = no_name n s h

no_decimal : (s : State) → Has (behind_item s.frames (Number (Value (ℤ.pos 0)) false) s) → ⊥
no_decimal s h = by_frames s.frames h
  where
    by_frames : (fs : List Frame) → Has (behind_item fs (Number (Value (ℤ.pos 0)) false) s) → ⊥
    by_frames [] h = h
    by_frames (f ∷ fs) h = h

-- a decimal beyond the range is unexpected only where 0.0 could not stand
far_not : (p : Now) (k : Kind) (s : State) → IsFar k → cause_of p k ≡ Unexpected → stepped p k s ≡ None
    → Has (stepped p (Number (Value (ℤ.pos 0)) false) s) → ⊥
far_not (Begin Ordinates) (Number High d) s f e q h = absurd (cc)
far_not (Begin Ordinates) (Number Low d) s f e q h = absurd (cc)
far_not (Begin Member) (Number High d) s f e q h = absurd (cc)
far_not (Begin Member) (Number Low d) s f e q h = absurd (cc)
far_not BehindX (Number High d) s f e q h = absurd (cc)
far_not BehindX (Number Low d) s f e q h = absurd (cc)
far_not (Behind zero) k s f e q h = no_decimal s h
far_not (Behind (suc n)) (Number High d) s f e q h = absurd (cc)
far_not (Behind (suc n)) (Number Low d) s f e q h = absurd (cc)
far_not (Behind (suc n)) (Number (Value z) d) s f e q h = f
far_not (Behind (suc n)) (Number NotNumber d) s f e q h = f
far_not (Behind (suc n)) Open s f e q h = f
far_not (Behind (suc n)) Close s f e q h = f
far_not (Behind (suc n)) Comma s f e q h = f
far_not (Behind (suc n)) Semicolon s f e q h = f
far_not (Behind (suc n)) Equals s f e q h = f
far_not (Behind (suc n)) Srid s f e q h = f
far_not (Behind (suc n)) Empty s f e q h = f
far_not (Behind (suc n)) Tag s f e q h = f
far_not (Behind (suc n)) (Name w j) s f e q h = f
far_not (Behind (suc n)) Curve s f e q h = f
far_not (Behind (suc n)) Other s f e q h = f
far_not (Begin Ordinates) (Number (Value z) d) s f e q h = f
far_not (Begin Ordinates) (Number NotNumber d) s f e q h = f
far_not (Begin Member) (Number (Value z) d) s f e q h = f
far_not (Begin Member) (Number NotNumber d) s f e q h = f
far_not BehindX (Number (Value z) d) s f e q h = f
far_not BehindX (Number NotNumber d) s f e q h = f
far_not Start k s f e q h = h
far_not BehindSrid k s f e q h = h
far_not BehindEquals k s f e q h = h
far_not BehindDigits k s f e q h = h
far_not (BehindWord g) k s f e q h = h
far_not (Begin Geometry) k s f e q h = h
far_not (Begin (Group g)) k s f e q h = h
far_not p k s f e q h = f

abbrev CurvedSays : Now → Kind → State → Type 0
CurvedSays p k s = (k ≡ Curve) × Has (stepped p (Name Point false) s)

is_curve_word : (k : Kind) → not_a_name k ≡ Curved → k ≡ Curve
is_curve_word Curve e = refl
is_curve_word k e = absurd (cc)

not_curved : (k : Kind) → not_a_coordinate k ≡ Curved → ⊥
not_curved (Number High d) e = absurd (cc)
not_curved (Number Low d) e = absurd (cc)
not_curved k e = absurd (cc)

curved_is : (p : Now) (k : Kind) (s : State) → cause_of p k ≡ Curved → CurvedSays p k s
curved_is Start k s e = (is_curve_word k e, tt)
curved_is (Begin Geometry) k s e = (is_curve_word k e, tt)
curved_is (Begin Ordinates) k s e = absurd (not_curved k e)
curved_is (Begin Member) k s e = absurd (not_curved k e)
curved_is BehindX k s e = absurd (not_curved k e)
curved_is p k s e = absurd (cc)

abbrev BeyondSays : Now → Kind → State → Type 0
BeyondSays p k s = IsFar k × Has (stepped p (Number (Value (ℤ.pos 0)) false) s)

is_far : (k : Kind) → not_a_coordinate k ≡ Beyond → IsFar k
is_far (Number High d) e = tt
is_far (Number Low d) e = tt
is_far k e = absurd (cc)

not_beyond : (k : Kind) → not_a_name k ≡ Beyond → ⊥
not_beyond Curve e = absurd (cc)
not_beyond k e = absurd (cc)

beyond_is : (p : Now) (k : Kind) (s : State) → cause_of p k ≡ Beyond → BeyondSays p k s
beyond_is Start k s e = absurd (not_beyond k e)
beyond_is (Begin Geometry) k s e = absurd (not_beyond k e)
beyond_is (Begin Ordinates) k s e = (is_far k e, tt)
beyond_is (Begin Member) k s e = (is_far k e, tt)
beyond_is BehindX k s e = (is_far k e, tt)
beyond_is p k s e = absurd (cc)

abbrev IsLimitCause : Cause → Type 0
IsLimitCause Deep = Unit {0}
IsLimitCause Full = Unit {0}
IsLimitCause _ = ⊥

no_limit_name : (k : Kind) → IsLimitCause (not_a_name k) → ⊥
no_limit_name Curve h = h
no_limit_name k h = h

no_limit_coordinate : (k : Kind) → IsLimitCause (not_a_coordinate k) → ⊥
no_limit_coordinate (Number High d) h = h
no_limit_coordinate (Number Low d) h = h
no_limit_coordinate k h = h

no_limit_cause : (p : Now) (k : Kind) → IsLimitCause (cause_of p k) → ⊥
no_limit_cause Start k h = no_limit_name k h
no_limit_cause (Begin Geometry) k h = no_limit_name k h
no_limit_cause (Begin Ordinates) k h = no_limit_coordinate k h
no_limit_cause (Begin Member) k h = no_limit_coordinate k h
no_limit_cause BehindX k h = no_limit_coordinate k h
no_limit_cause p k h = h

-- ---- the causes of a limit

if_limit : (t : Bool) (d c : Cause) → IsLimitCause d → (if t then Some d else None) ≡ Some c → IsLimitCause c
if_limit true d c h e = let same : d ≡ c = cc in subst IsLimitCause same h
if_limit false d c h e = absurd (cc)

deep_limit : (fs : List Frame) (k : Kind) (c : Cause) → if_deep fs k ≡ Some c → IsLimitCause c
deep_limit fs (Name Collection j) c e = if_limit (nat_le 8 (collections fs)) Deep c tt e
deep_limit fs k c e = absurd (cc)

full_limit : (n : ℕ) (k : Kind) (c : Cause) → if_full n k ≡ Some c → IsLimitCause c
full_limit n (Number (Value y) d) c e = if_limit (nat_le 1000000 n) Full c tt e
full_limit n k c e = absurd (cc)

limit_cause : (p : Now) (fs : List Frame) (n : ℕ) (k : Kind) (c : Cause) → limit_of p fs n k ≡ Some c
    → IsLimitCause c
limit_cause Start fs n k c e = deep_limit fs k c e
limit_cause (Begin Geometry) fs n k c e = deep_limit fs k c e
limit_cause BehindX fs n k c e = full_limit n k c e
limit_cause p fs n k c e = absurd (cc)

-- ---- a stop

-- the token at a place is the first behind those before it
token_at : (tokens w : List (List ℕ)) (i : ℕ) (a : List ℕ) → drop i tokens ≡ a ∷ w
    → slice_get tokens i ≡ Some a
token_at [] w zero a e = absurd (cc)
token_at [] w (suc i) a e = absurd (cc)
token_at (b ∷ tokens) w zero a e = let same : b ≡ a = cc in ap Some same
token_at (b ∷ tokens) w (suc i) a e = token_at tokens w i a e

no_token : (tokens : List (List ℕ)) (i : ℕ) → drop i tokens ≡ [] → slice_get tokens i ≡ None
no_token [] i e = refl
no_token (b ∷ tokens) zero e = absurd (cc)
no_token (b ∷ tokens) (suc i) e = no_token tokens i e

one_more : (tokens w : List (List ℕ)) (i : ℕ) (a : List ℕ) → drop i tokens ≡ a ∷ w
    → (take (suc i) tokens ≡ take i tokens ++ a ∷ []) × (i < length tokens)
one_more [] w zero a e = absurd (cc)
one_more [] w (suc i) a e = absurd (cc)
one_more (b ∷ tokens) w zero a e = let same : b ≡ a = cc in (ap (λ z. z ∷ []) same, omega arith)
one_more (b ∷ tokens) w (suc i) a e =
    let (q, l) = one_more tokens w i a e in (ap (λ z. b ∷ z) q, omega (arith, l))

-- the state at a stop, and what stands there
record IsAt (tokens w : List (List ℕ)) (i : ℕ) (s : State) : Type 0 where
  reached : after wkt_reader (take i tokens) start ≡ Some s
  rest : drop i tokens ≡ w

-- at the end of the tokens nothing is there
end_refused : (tokens : List (List ℕ)) (i : ℕ) (s : State) (c : Cause) → IsAt tokens [] i s
    → IsFirstWrong Spells tokens i → c ≡ Unexpected → RefusedFor tokens i c
end_refused tokens i s c h wrong e =
    subst (RefusedFor tokens i) (sym e) (
      wrong,
      (λ q. let t = q.there in let n = no_token tokens i h.rest in absurd (cc)),
      (λ q. let t = q.there in let n = no_token tokens i h.rest in absurd (cc)),
    )

-- a token that can't stand
wrong_refused : (tokens w : List (List ℕ)) (i : ℕ) (s : State) (a : List ℕ) (c : Cause)
    → IsAt tokens (a ∷ w) i s → IsFirstWrong Spells tokens i → wkt_reader.step s a ≡ None
    → cause_of s.now (kind_of a) ≡ c → RefusedFor tokens i c
unfolding kind_of word_kind keyword_kind geometry_kind decimal_of
wrong_refused tokens w i s a Unexpected h wrong o e =
    let there = token_at tokens w i a h.rest in (
      wrong,
      λ q.
          let both = q.there in
          let same : q.bytes ≡ a = cc in
          let kind : kind_of a ≡ Curve = ap kind_of (sym same) ∙ q.curve in
          curve_not s.now s (ap (cause_of s.now) (sym kind) ∙ e)
          (can_stand (take i tokens) s (codes "POINT") h.reached q.could),
      λ q.
          let both = q.there in
          let same : q.bytes ≡ a = cc in
          far_not s.now (kind_of a) s (subst (λ z. IsFar (kind_of z)) same q.far) e o
          (can_stand (take i tokens) s (codes "0.0") h.reached q.could),
    )
wrong_refused tokens w i s a Curved h wrong o e =
    let q = curved_is s.now (kind_of a) s e in (
      wrong,
      record {
        bytes = a;
        there = token_at tokens w i a h.rest;
        curve = q.0;
        could = could_stand (take i tokens) s (codes "POINT") h.reached q.1;
      },
    )
wrong_refused tokens w i s a Beyond h wrong o e =
    let q = beyond_is s.now (kind_of a) s e in (
      wrong,
      record {
        bytes = a;
        there = token_at tokens w i a h.rest;
        far = q.0;
        could = could_stand (take i tokens) s (codes "0.0") h.reached q.1;
      },
    )
wrong_refused tokens w i s a Deep h wrong o e =
    absurd (no_limit_cause s.now (kind_of a) (subst IsLimitCause (sym e) tt))
wrong_refused tokens w i s a Full h wrong o e =
    absurd (no_limit_cause s.now (kind_of a) (subst IsLimitCause (sym e) tt))

-- a token that meets a limit
limit_met : (tokens w : List (List ℕ)) (i : ℕ) (s t : State) (a : List ℕ) (c : Cause)
    → IsAt tokens (a ∷ w) i s → wkt_reader.step s a ≡ Some t → wkt_watch.limit s a ≡ Some c
    → IsLimit tokens i c
limit_met tokens w i s t a c h o e =
    let more = one_more tokens w i a h.rest in
    record {
      within = more.1;
      begins = subst (Begins Spells) (sym more.0)
          (begun (take i tokens ++ a ∷ []) t (after_push wkt_reader (take i tokens) start a s h.reached ∙ o));
      limit = ap (option_and_then (λ bytes. limit_behind (told (take i tokens)) (kind_of bytes)))
          (token_at tokens w i a h.rest) ∙ sym (limit_there (take i tokens) s t a h.reached o) ∙ e;
    }

limit_refused : (tokens : List (List ℕ)) (i : ℕ) (c : Cause) → IsLimitCause c → IsLimit tokens i c
    → RefusedFor tokens i c
limit_refused tokens i Deep h l = l
limit_refused tokens i Full h l = l
limit_refused tokens i Unexpected h l = absurd h
limit_refused tokens i Curved h l = absurd h
limit_refused tokens i Beyond h l = absurd h

first_wrong : (tokens : List (List ℕ)) (i : ℕ) (c : Cause)
    (stop : IsFirstStop wkt_reader wkt_watch tokens start i c) → IsStuck wkt_reader stop.state (drop i tokens)
    → IsFirstWrong Spells tokens i
first_wrong tokens i c stop stuck =
    ((wkt_reads tokens).place i).0 (stuck_at_stop wkt_reader wkt_watch tokens start i c stop stuck)

by_step : (tokens w : List (List ℕ)) (i : ℕ) (s : State) (a : List ℕ) (c : Cause) (o : Option State)
    → IsAt tokens (a ∷ w) i s → (IsStuck wkt_reader s (drop i tokens) → IsFirstWrong Spells tokens i)
    → wkt_reader.step s a ≡ o → RefusesFor (wkt_watch.cause s a) (wkt_watch.limit s a) o c
    → RefusedFor tokens i c
by_step tokens w i s a c None h wrong o e =
    wrong_refused tokens w i s a c h (wrong (subst (IsStuck wkt_reader s) (sym h.rest) o)) o (sym e)
by_step tokens w i s a c (Some t) h wrong o e =
    limit_refused tokens i c (limit_cause s.now s.frames s.vertices (kind_of a) c e)
    (limit_met tokens w i s t a c h o e)

by_rest : (tokens w : List (List ℕ)) (i : ℕ) (s : State) (c : Cause) → IsAt tokens w i s
    → (IsStuck wkt_reader s (drop i tokens) → IsFirstWrong Spells tokens i)
    → StopsFor wkt_reader wkt_watch s w c → RefusedFor tokens i c
by_rest tokens [] i s c h wrong stops =
    end_refused tokens i s c h (wrong (subst (IsStuck wkt_reader s) (sym h.rest) stops.0)) stops.1
by_rest tokens (a ∷ w) i s c h wrong stops = by_step tokens w i s a c (wkt_reader.step s a) h wrong refl stops

-- where the machine stops, the token is refused
pub stop_refused : (tokens : List (List ℕ)) (i : ℕ) (c : Cause)
    → IsFirstStop wkt_reader wkt_watch tokens start i c → IsRefused tokens i c
stop_refused tokens i c stop = record {
  within = stop.within;
  begins = begun (take i tokens) stop.state stop.reached;
  unlimited = λ j l. free_before tokens [] start stop.state i j refl stop.reached stop.unlimited l;
  refused = by_rest tokens (drop i tokens) i stop.state c (record { reached = stop.reached; rest = refl })
      (first_wrong tokens i c stop) stop.stops;
}
