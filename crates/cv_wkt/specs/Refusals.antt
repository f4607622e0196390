-- Why well-known text is refused, and what a reader answers.
use Rattle.std.specs.Prelude.{ℕ, zero, suc, nat_le, Bool, true, false, if◌then◌else◌, List, [], ◌∷◌, map}
use Rattle.std.specs.Prelude.{length, count_by, Option, Some, None, Result, Ok, Err}
use Rattle.cv_model.specs.Geometries.{GeometryLists}
use Rattle.cv_model.specs.declared.wkt_error.WktError.{WktError}
use Rattle.cv_reading.specs.Tokens.{Token}
use Rattle.cv_reading.specs.Watches.{Watch, Stop, StopAt, watched}
use Rattle.cv_number.specs.declared.fixed.Fixed.TheVariants.{Value, High, Low}
use Rattle.cv_wkt.specs.declared.kind.Word.TheVariants.{Collection}
use Rattle.cv_wkt.specs.declared.kind.Kind.{Kind}
use Rattle.cv_wkt.specs.declared.kind.Kind.TheVariants.{Name, Curve, Number}
use Rattle.cv_wkt.specs.declared.place.Frame.{Frame}
use Rattle.cv_wkt.specs.declared.place.Frame.TheVariants.{Geometries}
use Rattle.cv_wkt.specs.declared.place.Sort.TheVariants.{Ordinates, Member, Geometry}
use Rattle.cv_wkt.specs.declared.place.Now.{Now}
use Rattle.cv_wkt.specs.declared.place.Now.TheVariants.{Start, Begin, BehindX}
use Rattle.cv_wkt.specs.declared.place.Cause.{Cause}
use Rattle.cv_wkt.specs.declared.place.Cause.TheVariants.{Unexpected, Curved, Beyond, Deep, Full}
use Rattle.cv_wkt.specs.Kind.{kind_of, tokens_of}
use Rattle.cv_wkt.specs.Reader.{State, start, stepped, wkt_reader}

-- a token where a geometry's word is expected
abbrev pub not_a_name : Kind → Cause
not_a_name Curve = Curved
not_a_name _ = Unexpected

-- a token where an x or y is expected, or may be
abbrev pub not_a_coordinate : Kind → Cause
not_a_coordinate (Number High d) = Beyond
not_a_coordinate (Number Low d) = Beyond
not_a_coordinate _ = Unexpected

-- why a token can't stand
abbrev pub cause_of : Now → Kind → Cause
cause_of Start k = not_a_name k
cause_of (Begin Geometry) k = not_a_name k
cause_of (Begin Ordinates) k = not_a_coordinate k
cause_of (Begin Member) k = not_a_coordinate k
cause_of BehindX k = not_a_coordinate k
cause_of _ k = Unexpected

-- is a list a collection's
abbrev pub is_collection : Frame → Bool
is_collection Geometries = true
is_collection _ = false

-- how many collections are open
abbrev pub collections : List Frame → ℕ
collections frames = count_by is_collection frames

-- the word of a collection within eight
abbrev pub if_deep : List Frame → Kind → Option Cause
if_deep frames (Name Collection joined) = if nat_le 8 (collections frames) then Some Deep else None
if_deep frames _ = None

-- the y of a vertex behind 1,000,000
abbrev pub if_full : ℕ → Kind → Option Cause
if_full vertices (Number (Value y) d) = if nat_le 1000000 vertices then Some Full else None
if_full vertices _ = None

-- a limit that a token which can stand meets: the word of a collection within eight, the y of a vertex behind
-- 1,000,000
abbrev pub limit_of : Now → List Frame → ℕ → Kind → Option Cause
limit_of Start frames vertices k = if_deep frames k
limit_of (Begin Geometry) frames vertices k = if_deep frames k
limit_of BehindX frames vertices k = if_full vertices k
limit_of _ frames vertices k = None

-- why the machine refuses, and at which limits
abbrev pub wkt_watch : Watch State (List ℕ) Cause
wkt_watch = record {
  cause = λ s bytes. cause_of s.now (kind_of bytes);
  early = λ s. Unexpected;
  limit = λ s bytes. limit_of s.now s.frames s.vertices (kind_of bytes);
}

-- a refusal at an offset
abbrev pub refusal : Cause → ℕ → WktError
refusal Unexpected at = WktError.Syntax at
refusal Curved at = WktError.Curve at
refusal Beyond at = WktError.OutOfRange at
refusal Deep at = WktError.TooDeep
refusal Full at = WktError.TooMany

-- the offset of a token by its number, and `end` where there is none
abbrev pub offset : ℕ → List Token → ℕ → ℕ
offset end [] i = end
offset end (t ∷ ts) zero = t.at
offset end (t ∷ ts) (suc i) = offset end ts i

-- a refusal at its offset
abbrev pub located : ℕ → List Token → Result GeometryLists (Stop Cause) → Result GeometryLists WktError
located end ts (Ok g) = Ok g
located end ts (Err (StopAt i c)) = Err (refusal c (offset end ts i))

-- the answer to the tokens behind a state
abbrev pub answer : ℕ → List Token → State → Result GeometryLists WktError
answer end ts s = located end ts (watched wkt_reader wkt_watch (map (λ (t : Token). t.bytes) ts) s)

-- the answer at the end
abbrev pub finished : ℕ → State → Result GeometryLists WktError
finished end s = answer end [] s

-- the answer to a text: its geometry, or its first refusal
unfoldable pub geometry_of : List ℕ → Result GeometryLists WktError
geometry_of text = answer (length text) (tokens_of text) start

-- ---- one token, as the code takes it

-- the state behind a token, but where it can't stand or meets a limit
abbrev pub taken_by : Cause → Option Cause → Option State → ℕ → Result State WktError
taken_by cause limit None at = Err (refusal cause at)
taken_by cause (Some c) (Some t) at = Err (refusal c at)
taken_by cause None (Some t) at = Ok t

-- the state behind a token at an offset, or its refusal
unfoldable pub taken : State → Kind → ℕ → Result State WktError
taken s k at = taken_by (cause_of s.now k) (limit_of s.now s.frames s.vertices k) (stepped s.now k s) at
