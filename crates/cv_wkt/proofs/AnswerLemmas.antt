-- There is one answer to a text, and it is what the machine under its watch answers.
use Rattle.std.proofs.Common.{◌≡◌, ◌↔◌, ℕ, suc, ◌<◌, ◌≤◌, ◌⊎◌, inl, inr, List, [], ◌∷◌, length, take, Some}
use Rattle.std.proofs.Common.{None, Result, Ok, Err, IfOk, option_and_then, refl, sym, ap, ap₂}
use Rattle.std.proofs.Common.{subst, ◌∙◌, arith}
use Rattle.std.proofs.lemmas.Bool.{cases_lt}
use Rattle.std.proofs.lemmas.Option.{slice_get_past}
use Rattle.cv_model.specs.Geometries.{GeometryLists}
use Rattle.cv_model.specs.declared.wkt_error.WktError.{WktError}
use Rattle.cv_reading.specs.Machines.{after}
use Rattle.cv_reading.specs.Readings.{IsFirstWrong}
use Rattle.cv_reading.specs.Watches.{Stop, StopAt, IsUnlimited, IsWatched, watched}
use Rattle.cv_reading.proofs.MachineLemmas.{ends_at}
use Rattle.cv_reading.proofs.WatchLemmas.{is_watched}
use Rattle.cv_wkt.specs.declared.place.Cause.{Cause}
use Rattle.cv_wkt.specs.declared.place.Cause.TheVariants.{Unexpected, Curved, Beyond, Deep, Full}
use Rattle.cv_wkt.specs.Kind.{kind_of, tokens_of}
use Rattle.cv_wkt.specs.Grammar.{Spells}
use Rattle.cv_wkt.specs.Reader.{State, start, wkt_reader}
use Rattle.cv_wkt.specs.Refusals.{wkt_watch, refusal, offset, located, geometry_of}
use Rattle.cv_wkt.specs.Leftmost.{words, told, limit_behind, limit_at, IsGeometry, IsFar, IsCurveThere}
use Rattle.cv_wkt.specs.Leftmost.{IsFarThere, IsLimit, RefusedFor, IsRefused, IsRefusal}
use Rattle.cv_wkt.proofs.GrammarLemmas.{wkt_reads}
use Rattle.cv_wkt.proofs.LimitLemmas.{free_before}
use Rattle.cv_wkt.proofs.RefusalLemmas.{stop_refused}

-- the tokens spell the geometry, and none meets a limit
pub record IsFound (tokens : List (List ℕ)) (g : GeometryLists) : Type 0 where
  pub spelt : Spells tokens g
  pub unlimited : (i : ℕ) → limit_at tokens i ≡ None

-- ---- what the machine answers

all_taken : (tokens : List (List ℕ)) → take (length tokens) tokens ≡ tokens
all_taken [] = refl
all_taken (a ∷ tokens) = ap (λ z. a ∷ z) (all_taken tokens)

all_free : (tokens : List (List ℕ)) (t : State) → after wkt_reader tokens start ≡ Some t
    → IsUnlimited wkt_reader wkt_watch tokens start → (j : ℕ) → limit_at tokens j ≡ None
all_free tokens t e h j = by_place (cases_lt j (length tokens))
  where
    by_place : (j < length tokens) ⊎ (length tokens ≤ j) → limit_at tokens j ≡ None
    by_place (inl l) =
        free_before tokens [] start t (length tokens) j refl
        (ap (λ z. after wkt_reader z start) (all_taken tokens) ∙ e)
        (subst (λ z. IsUnlimited wkt_reader wkt_watch z start) (sym (all_taken tokens)) h) l
    by_place (inr l) = ap (option_and_then (λ bytes. limit_behind (told (take j tokens)) (kind_of bytes)))
        (slice_get_past tokens j l)

abbrev IsTold : List (List ℕ) → Result GeometryLists (Stop Cause) → Type 0
IsTold tokens (Ok g) = IsFound tokens g
IsTold tokens (Err (StopAt i c)) = IsRefused tokens i c

told_of : (tokens : List (List ℕ)) (r : Result GeometryLists (Stop Cause))
    → IsWatched wkt_reader wkt_watch tokens start r → IsTold tokens r
told_of tokens (Ok g) h =
    let (t, e, q) = ends_at wkt_reader tokens start g h.0 in
    record { spelt = ((wkt_reads tokens).value g).0 h.0; unlimited = all_free tokens t e h.1 }
told_of tokens (Err (StopAt i c)) h = stop_refused tokens i c h

is_told : (tokens : List (List ℕ)) → IsTold tokens (watched wkt_reader wkt_watch tokens start)
is_told tokens = told_of tokens (watched wkt_reader wkt_watch tokens start)
    (is_watched wkt_reader wkt_watch tokens start)

-- ---- there is one such answer

one_geometry : (tokens : List (List ℕ)) (g h : GeometryLists) → Spells tokens g → Spells tokens h → g ≡ h
one_geometry tokens g h p q =
    let a = ((wkt_reads tokens).value g).1 p in
    let b = ((wkt_reads tokens).value h).1 q in
    cc

limit_not_wrong : (tokens : List (List ℕ)) (i : ℕ) (c : Cause) → IsLimit tokens i c
    → IsFirstWrong Spells tokens i → ⊥
limit_not_wrong tokens i c l wrong =
    let w = l.within in wrong.longest (suc i) (omega arith) (omega (arith, w)) l.begins

found_to : (tokens : List (List ℕ)) (g : GeometryLists) (i : ℕ) (c : Cause) → IsFound tokens g
    → RefusedFor tokens i c → ⊥
found_to tokens g i Unexpected h r = r.0.refused g h.spelt
found_to tokens g i Curved h r = r.0.refused g h.spelt
found_to tokens g i Beyond h r = r.0.refused g h.spelt
found_to tokens g i Deep h r = let e = r.limit in let f = h.unlimited i in absurd (cc)
found_to tokens g i Full h r = let e = r.limit in let f = h.unlimited i in absurd (cc)

-- a geometry is not refused
found_not_refused : (tokens : List (List ℕ)) (g : GeometryLists) (i : ℕ) (c : Cause) → IsFound tokens g
    → IsRefused tokens i c → ⊥
found_not_refused tokens g i c h r = found_to tokens g i c h r.refused

earlier_to : (tokens : List (List ℕ)) (i j : ℕ) (c d : Cause) → i < j → IsRefused tokens j d
    → RefusedFor tokens i c → ⊥
earlier_to tokens i j Unexpected d l later r = r.0.longest j l later.within later.begins
earlier_to tokens i j Curved d l later r = r.0.longest j l later.within later.begins
earlier_to tokens i j Beyond d l later r = r.0.longest j l later.within later.begins
earlier_to tokens i j Deep d l later r = let e = r.limit in let f = later.unlimited i l in absurd (cc)
earlier_to tokens i j Full d l later r = let e = r.limit in let f = later.unlimited i l in absurd (cc)

-- one token is the leftmost
same_token : (tokens : List (List ℕ)) (i j : ℕ) (c d : Cause) → IsRefused tokens i c → IsRefused tokens j d
    → i ≡ j
same_token tokens i j c d p q =
    apart (λ l. earlier_to tokens i j c d l q p.refused) (λ l. earlier_to tokens j i d c l p q.refused)
  where
    apart : (i < j → ⊥) → (j < i → ⊥) → i ≡ j
    apart f g = omega arith

curve_not_far : (tokens : List (List ℕ)) (i : ℕ) → IsCurveThere tokens i → IsFarThere tokens i → ⊥
curve_not_far tokens i p q =
    let a = p.there in
    let b = q.there in
    let same : q.bytes ≡ p.bytes = cc in
    subst IsFar (ap kind_of same ∙ p.curve) q.far

limits_alike : (tokens : List (List ℕ)) (i : ℕ) (c d : Cause) → IsLimit tokens i c → IsLimit tokens i d
    → c ≡ d
limits_alike tokens i c d p q = let a = p.limit in let b = q.limit in cc

-- and it is refused for one cause
same_cause : (tokens : List (List ℕ)) (i : ℕ) (c d : Cause) → RefusedFor tokens i c → RefusedFor tokens i d
    → c ≡ d
same_cause tokens i Unexpected Unexpected p q = refl
same_cause tokens i Unexpected Curved p q = absurd (p.1 q.1)
same_cause tokens i Unexpected Beyond p q = absurd (p.2 q.1)
same_cause tokens i Unexpected Deep p q = absurd (limit_not_wrong tokens i Deep q p.0)
same_cause tokens i Unexpected Full p q = absurd (limit_not_wrong tokens i Full q p.0)
same_cause tokens i Curved Unexpected p q = absurd (q.1 p.1)
same_cause tokens i Curved Curved p q = refl
same_cause tokens i Curved Beyond p q = absurd (curve_not_far tokens i p.1 q.1)
same_cause tokens i Curved Deep p q = absurd (limit_not_wrong tokens i Deep q p.0)
same_cause tokens i Curved Full p q = absurd (limit_not_wrong tokens i Full q p.0)
same_cause tokens i Beyond Unexpected p q = absurd (q.2 p.1)
same_cause tokens i Beyond Curved p q = absurd (curve_not_far tokens i q.1 p.1)
same_cause tokens i Beyond Beyond p q = refl
same_cause tokens i Beyond Deep p q = absurd (limit_not_wrong tokens i Deep q p.0)
same_cause tokens i Beyond Full p q = absurd (limit_not_wrong tokens i Full q p.0)
same_cause tokens i Deep Unexpected p q = absurd (limit_not_wrong tokens i Deep p q.0)
same_cause tokens i Deep Curved p q = absurd (limit_not_wrong tokens i Deep p q.0)
same_cause tokens i Deep Beyond p q = absurd (limit_not_wrong tokens i Deep p q.0)
same_cause tokens i Deep Deep p q = refl
same_cause tokens i Deep Full p q = limits_alike tokens i Deep Full p q
same_cause tokens i Full Unexpected p q = absurd (limit_not_wrong tokens i Full p q.0)
same_cause tokens i Full Curved p q = absurd (limit_not_wrong tokens i Full p q.0)
same_cause tokens i Full Beyond p q = absurd (limit_not_wrong tokens i Full p q.0)
same_cause tokens i Full Deep p q = limits_alike tokens i Full Deep p q
same_cause tokens i Full Full p q = refl

-- ---- a text

answered_ok : (text : List ℕ) (g : GeometryLists) (r : Result GeometryLists (Stop Cause))
    → IsTold (words text) r → (located (length text) (tokens_of text) r ≡ Ok g) ↔ IsGeometry text g
answered_ok text g (Ok f) h = (
  λ e. let same : f ≡ g = cc in
      record { spelt = subst (Spells (words text)) same h.spelt; unlimited = h.unlimited },
  λ q. ap Ok (one_geometry (words text) f g h.spelt q.spelt),
)
answered_ok text g (Err (StopAt i c)) h = (
  λ e. absurd (cc),
  λ q. absurd
      (found_not_refused (words text) g i c (record { spelt = q.spelt; unlimited = q.unlimited }) h),
)

answered_err : (text : List ℕ) (f : WktError) (r : Result GeometryLists (Stop Cause)) → IsTold (words text) r
    → (located (length text) (tokens_of text) r ≡ Err f) ↔ IsRefusal text f
answered_err text f (Ok g) h =
    (λ e. absurd (cc), λ q. absurd (found_not_refused (words text) g q.token q.cause h q.first))
answered_err text f (Err (StopAt i c)) h = (
  λ e. let same : f ≡ refusal c (offset (length text) (tokens_of text) i) = cc in
      record { token = i; cause = c; first = h; named = same },
  λ q.
      let place : i ≡ q.token = same_token (words text) i q.token c q.cause h q.first in
      let cause : c ≡ q.cause =
      same_cause (words text) q.token c q.cause
      (subst (λ z. RefusedFor (words text) z c) place h.refused) q.first.refused in
      ap Err (ap₂ (λ z n. refusal z (offset (length text) (tokens_of text) n)) cause place ∙ sym q.named),
)

-- the answer is the geometry just where the tokens spell it and meet no limit
pub geometry_exactly : (text : List ℕ) (g : GeometryLists) → (geometry_of text ≡ Ok g) ↔ IsGeometry text g
unfolding geometry_of
geometry_exactly text g =
    answered_ok text g (watched wkt_reader wkt_watch (words text) start) (is_told (words text))

-- and a refusal just where that token is the leftmost refused
pub refusal_exactly : (text : List ℕ) (f : WktError) → (geometry_of text ≡ Err f) ↔ IsRefusal text f
unfolding geometry_of
refusal_exactly text f =
    answered_err text f (watched wkt_reader wkt_watch (words text) start) (is_told (words text))

-- ---- what the reader answers

-- a value is a geometry of the grammar
pub found_of : (text : List ℕ) (r : Result GeometryLists WktError) → IfOk r (λ g. geometry_of text ≡ Ok g)
    → IfOk r (IsGeometry text)
found_of text (Ok g) h = (geometry_exactly text g).0 h
found_of text (Err e) h = tt

-- the geometry that a text spells is the answer
pub only_of : (text : List ℕ) (r : Result GeometryLists WktError) (g : GeometryLists) → r ≡ geometry_of text
    → IsGeometry text g → r ≡ Ok g
only_of text r g e h = e ∙ (geometry_exactly text g).1 h

-- and so is its refusal, and no other
pub fault_of : (text : List ℕ) (r : Result GeometryLists WktError) (f : WktError) → r ≡ geometry_of text
    → (r ≡ Err f) ↔ IsRefusal text f
fault_of text r f e = (λ h. (refusal_exactly text f).0 (sym e ∙ h), λ h. e ∙ (refusal_exactly text f).1 h)
