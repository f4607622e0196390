-- What a step is at some tokens whatever else the state is.
use Rattle.std.proofs.Common.{◌≡◌, ℕ, zero, suc, ◌<◌, Bool, true, false, nat_le, if◌then◌else◌, List, [], ◌∷◌}
use Rattle.std.proofs.Common.{Option, Some, None, refl, sym, ap, leb-false}
use Rattle.cv_wkt.specs.Stack.{first_of}
use Rattle.cv_wkt.specs.declared.kind.Kind.{Kind}
use Rattle.cv_wkt.specs.declared.kind.Kind.TheVariants.{Close, Comma, Name, Number}
use Rattle.cv_wkt.specs.declared.place.Frame.{Frame}
use Rattle.cv_wkt.specs.declared.place.Now.TheVariants.{Behind}
use Rattle.cv_wkt.specs.declared.place.Cause.{Cause}
use Rattle.cv_wkt.specs.declared.place.Cause.TheVariants.{Full}
use Rattle.cv_wkt.specs.Grammar.{many}
use Rattle.std.proofs.Common.{Ok, Err, ◌∙◌}
use Rattle.cv_model.specs.declared.wkt_error.WktError.{WktError}
use Rattle.cv_reading.specs.Watches.{watched_end}
use Rattle.cv_number.specs.declared.fixed.Fixed.TheVariants.{Value}
use Rattle.cv_wkt.specs.declared.place.Sort.TheVariants.{Geometry}
use Rattle.cv_wkt.specs.declared.place.Now.{Now}
use Rattle.cv_wkt.specs.declared.place.Now.TheVariants.{Start, Begin, BehindX}
use Rattle.cv_wkt.specs.declared.place.Cause.TheVariants.{Unexpected}
use Rattle.cv_wkt.specs.Pieces.{lists}
use Rattle.cv_wkt.specs.Refusals.{cause_of, limit_of, if_deep, if_full, refusal, located, answer, taken_by}
use Rattle.cv_wkt.specs.Refusals.{taken}
use Rattle.cv_wkt.specs.Reader.{State, Stepped, separated, behind_item, stepped, ended_at}

-- a comma in a list
pub comma_is : (fs : List Frame) (f : Frame) (s : State) → first_of fs ≡ Some f
    → behind_item fs Comma s ≡ separated (many f) f s
comma_is [] f s e = absurd (cc)
comma_is (g ∷ fs) f s e = let same : g ≡ f = cc in ap (λ z. separated (many z) z s) same

-- a comma in none
pub no_comma : (fs : List Frame) (s : State) → first_of fs ≡ None → behind_item fs Comma s ≡ None
no_comma [] s e = refl
no_comma (g ∷ fs) s e = absurd (cc)

-- signs behind an item, however many ordinates may come
pub comma_behind : (n : ℕ) (s : State) → stepped (Behind n) Comma s ≡ behind_item s.frames Comma s
comma_behind zero s = refl
comma_behind (suc n) s = refl

-- `)` goes to the list in which an item stands
pub close_behind : (n : ℕ) (s : State) → stepped (Behind n) Close s ≡ behind_item s.frames Close s
close_behind zero s = refl
close_behind (suc n) s = refl

-- other tokens behind an item
abbrev pub IsNoSign : Kind → Type 0
IsNoSign Comma = ⊥
IsNoSign Close = ⊥
IsNoSign (Number f d) = ⊥
IsNoSign _ = Unit {0}

no_item : (fs : List Frame) (k : Kind) (s : State) → IsNoSign k → behind_item fs k s ≡ None
no_item [] k s h = refl
no_item (f ∷ fs) Comma s h = absurd h
no_item (f ∷ fs) Close s h = absurd h
no_item (f ∷ fs) k s h = refl

-- nothing else can stand behind the last ordinate
pub none_behind : (n : ℕ) (k : Kind) (s : State) → IsNoSign k → stepped (Behind n) k s ≡ None
none_behind zero k s h = no_item s.frames k s h
none_behind (suc n) Comma s h = absurd h
none_behind (suc n) Close s h = absurd h
none_behind (suc n) (Number f d) s h = absurd h
none_behind (suc n) k s h = no_item s.frames k s h

-- no room for one more
pub is_room : (n : ℕ) → (if nat_le 1000000 n then Some Full else None) ≡ None → n < 1000000
is_room n e = by_test (nat_le 1000000 n) refl e
  where
    by_test : (t : Bool) → nat_le 1000000 n ≡ t → (if t then Some Full else None) ≡ None → n < 1000000
    by_test true q e = absurd (cc)
    by_test false q e = leb-false 1000000 n q

-- ---- a token as it is taken

-- a token that meets a limit can stand
abbrev IsLimited : State → Kind → ℕ → Cause → Option Cause → Option State → Type 0
IsLimited s k at c l o = l ≡ Some c → taken_by (cause_of s.now k) l o at ≡ Err (refusal c at)

limited_to : (s : State) (k : Kind) (at : ℕ) (c : Cause) (l : Option Cause) (t : State)
    → IsLimited s k at c l (Some t)
limited_to s k at c None t e = absurd (cc)
limited_to s k at c (Some d) t e = let same : d ≡ c = cc in ap (λ z. Err (refusal z at)) same

limited_at : (p : Now) (k : Kind) (s : State) (at : ℕ) (c : Cause)
    → IsLimited s k at c (limit_of p s.frames s.vertices k) (stepped p k s)
limited_at Start (Name w j) s at c e = limited_to s (Name w j) at c (if_deep s.frames (Name w j)) _ e
limited_at (Begin Geometry) (Name w j) s at c e =
    limited_to s (Name w j) at c (if_deep s.frames (Name w j)) _ e
limited_at BehindX (Number (Value y) d) s at c e =
    limited_to s (Number (Value y) d) at c (if_full s.vertices (Number (Value y) d)) _ e
limited_at p k s at c e = absurd (cc)

-- a token that meets a limit is refused for it
pub limited : (s : State) (k : Kind) (at : ℕ) (c : Cause) → limit_of s.now s.frames s.vertices k ≡ Some c
    → taken s k at ≡ Err (refusal c at)
unfolding taken
limited s k at c e = limited_at s.now k s at c e

-- a step that was made, where no limit is met
made_to : (c : Cause) (l : Option Cause) (o : Option State) (t : State) (at : ℕ) → l ≡ None → Stepped true o t
    → taken_by c l o at ≡ Ok t
made_to c None None t at e h = absurd h
made_to c None (Some u) t at e h = ap Ok (sym h)
made_to c (Some d) o t at e h = absurd (cc)

-- a step that was made is the state behind the token
pub made : (s t : State) (k : Kind) (at : ℕ) → limit_of s.now s.frames s.vertices k ≡ None
    → Stepped true (stepped s.now k s) t → taken s k at ≡ Ok t
unfolding taken
made s t k at e h = made_to (cause_of s.now k) (limit_of s.now s.frames s.vertices k)
    (stepped s.now k s) t at e h

-- a step that was refused
refused_to : (c : Cause) (l : Option Cause) (o : Option State) (t : State) (at : ℕ) → Stepped false o t
    → taken_by c l o at ≡ Err (refusal c at)
refused_to c l None t at h = refl
refused_to c l (Some u) t at h = absurd h

-- a token that can't stand is refused for its cause
pub refused : (s t : State) (k : Kind) (at : ℕ) → Stepped false (stepped s.now k s) t
    → taken s k at ≡ Err (refusal (cause_of s.now k) at)
unfolding taken
refused s t k at h = refused_to (cause_of s.now k) (limit_of s.now s.frames s.vertices k)
    (stepped s.now k s) t at h

-- ---- the end

-- behind an item
abbrev pub IsBehind : Now → Type 0
IsBehind (Behind n) = Unit {0}
IsBehind _ = ⊥

finished_to : (fs : List Frame) (n end : ℕ) (s : State) → first_of fs ≡ None
    → located end [] (watched_end Unexpected (ended_at (Behind n) fs s.parts)) ≡ Ok (lists s.parts)
finished_to [] n end s e = refl
finished_to (f ∷ fs) n end s e = absurd (cc)

-- where no list is open behind an item, the text may end
pub finished_is : (s : State) (n end : ℕ) → first_of s.frames ≡ None → s.now ≡ Behind n
    → answer end [] s ≡ Ok (lists s.parts)
finished_is s n end e q =
    ap (λ p. located end [] (watched_end Unexpected (ended_at p s.frames s.parts))) q
    ∙ finished_to s.frames n end s e

open_to : (fs : List Frame) (f : Frame) (p : Now) (end : ℕ) (s : State) → first_of fs ≡ Some f
    → located end [] (watched_end Unexpected (ended_at p fs s.parts)) ≡ Err (WktError.Syntax end)
open_to [] f p end s e = absurd (cc)
open_to (g ∷ fs) f (Behind n) end s e = refl
open_to (g ∷ fs) f p end s e = refl

-- where a list is open, it ends early
pub open_is : (s : State) (f : Frame) (end : ℕ) → first_of s.frames ≡ Some f
    → answer end [] s ≡ Err (WktError.Syntax end)
open_is s f end e = open_to s.frames f s.now end s e

early_to : (p : Now) (fs : List Frame) (end : ℕ) (s : State) → (IsBehind p → ⊥)
    → located end [] (watched_end Unexpected (ended_at p fs s.parts)) ≡ Err (WktError.Syntax end)
early_to (Behind n) fs end s h = absurd (h tt)
early_to p fs end s h = refl

-- and elsewhere too
pub early_is : (s : State) (end : ℕ) → (IsBehind s.now → ⊥) → answer end [] s ≡ Err (WktError.Syntax end)
early_is s end h = early_to s.now s.frames end s h

-- ---- by what they serve

-- at a token behind an item
pub ruleset item_steps = (comma_behind, close_behind, none_behind)

-- at a token that is taken or refused
pub ruleset taken_steps = (limited, made, refused)

-- at the end
pub ruleset end_steps = (finished_is, open_is, early_is)
