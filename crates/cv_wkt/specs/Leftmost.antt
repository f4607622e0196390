-- What a text is read as, and where it is refused, said of its tokens alone.
use Rattle.std.specs.Prelude.{◌≡◌, ℕ, suc, ◌+◌, ◌<◌, ◌≤◌, nat_le, Bool, false, ◌&&◌, ◌==◌, if◌then◌else◌}
use Rattle.std.specs.Prelude.{List, [], ◌∷◌, ◌++◌, map, fold, length, take, drop, slice_get, count_by, codes}
use Rattle.std.specs.Prelude.{Option, Some, None, option_and_then}
use Rattle.cv_model.specs.Geometries.{GeometryLists}
use Rattle.cv_model.specs.declared.wkt_error.WktError.{WktError}
use Rattle.cv_reading.specs.Tokens.{Token}
use Rattle.cv_reading.specs.Readings.{Begins, IsFirstWrong}
use Rattle.cv_number.specs.declared.fixed.Fixed.TheVariants.{High, Low}
use Rattle.cv_wkt.specs.declared.kind.Word.TheVariants.{Collection}
use Rattle.cv_wkt.specs.declared.kind.Kind.{Kind}
use Rattle.cv_wkt.specs.declared.kind.Kind.TheVariants.{Open, Close, Tag, Name, Curve, Number}
use Rattle.cv_wkt.specs.declared.place.Cause.{Cause}
use Rattle.cv_wkt.specs.declared.place.Cause.TheVariants.{Unexpected, Curved, Beyond, Deep, Full}
use Rattle.cv_wkt.specs.Kind.{kind_of, tokens_of}
use Rattle.cv_wkt.specs.Grammar.{group_of, Spells}
use Rattle.cv_wkt.specs.Refusals.{is_collection, refusal, offset}

-- the bytes of each token
abbrev pub words : List ℕ → List (List ℕ)
words text = map (λ (t : Token). t.bytes) (tokens_of text)

-- ---- what the tokens so far tell of nesting and of vertices

-- how many numbers stand directly before; how many y there are, a number being a y that stands directly
-- behind one number;
-- whether a collection's word stands before, perhaps with its tag; and for each open `(`, innermost first,
-- whether it is a collection's
pub record Told : Type 0 where
  pub numbers : ℕ
  pub vertices : ℕ
  pub named : Bool
  pub nested : List Bool

-- before the first token
abbrev pub nothing_told : Told
nothing_told = record { numbers = 0; vertices = 0; named = false; nested = [] }

-- with one token more
abbrev pub tell : Told → Kind → Told
tell t Open = record { numbers = 0; vertices = t.vertices; named = false; nested = t.named ∷ t.nested }
tell t Close = record { numbers = 0; vertices = t.vertices; named = false; nested = drop 1 t.nested }
tell t (Name w joined) =
    record { numbers = 0; vertices = t.vertices; named = is_collection (group_of w); nested = t.nested }
tell t Tag = record { numbers = 0; vertices = t.vertices; named = t.named; nested = t.nested }
tell t (Number v digits) =
    record {
      numbers = t.numbers + 1;
      vertices = t.vertices + (if t.numbers == 1 then 1 else 0);
      named = false;
      nested = t.nested;
    }
tell t _ = record { numbers = 0; vertices = t.vertices; named = false; nested = t.nested }

-- what some tokens tell
abbrev pub told : List (List ℕ) → Told
told tokens = fold (λ t bytes. tell t (kind_of bytes)) nothing_told tokens

-- the limit that a token meets behind others: the word of a collection within eight, the y of vertex
-- 1,000,001
abbrev pub limit_behind : Told → Kind → Option Cause
limit_behind t (Name Collection joined) = if nat_le 8 (count_by (λ b. b) t.nested) then Some Deep else None
limit_behind t (Number v digits) = if t.numbers == 1 && nat_le 1000000 t.vertices then Some Full else None
limit_behind t _ = None

-- the limit that the token of this number meets, if there is such a token and it meets one
abbrev pub limit_at : List (List ℕ) → ℕ → Option Cause
limit_at tokens i = option_and_then (λ bytes. limit_behind (told (take i tokens)) (kind_of bytes))
    (slice_get tokens i)

-- ---- a geometry

-- the text spells the geometry, and no token meets a limit
pub record IsGeometry (text : List ℕ) (g : GeometryLists) : Type 0 where
  pub spelt : Spells (words text) g
  pub unlimited : (i : ℕ) → limit_at (words text) i ≡ None

-- ---- a refusal

-- the word of a curve or a surface, where POINT in its place could stand
pub record IsCurveThere (tokens : List (List ℕ)) (i : ℕ) : Type 0 where
  pub bytes : List ℕ
  pub there : slice_get tokens i ≡ Some bytes
  pub curve : kind_of bytes ≡ Curve
  pub could : Begins Spells (take i tokens ++ codes "POINT" ∷ [])

-- a decimal beyond the range of coordinates
abbrev pub IsFar : Kind → Type 0
IsFar (Number High digits) = Unit {0}
IsFar (Number Low digits) = Unit {0}
IsFar _ = ⊥

-- a decimal beyond the range, where 0.0 in its place could stand
pub record IsFarThere (tokens : List (List ℕ)) (i : ℕ) : Type 0 where
  pub bytes : List ℕ
  pub there : slice_get tokens i ≡ Some bytes
  pub far : IsFar (kind_of bytes)
  pub could : Begins Spells (take i tokens ++ codes "0.0" ∷ [])

-- a token that can stand, and meets a limit
pub record IsLimit (tokens : List (List ℕ)) (i : ℕ) (c : Cause) : Type 0 where
  pub within : i < length tokens
  pub begins : Begins Spells (take (suc i) tokens)
  pub limit : limit_at tokens i ≡ Some c

-- why the token i is refused: it is the first such that no text begins with those up to it, or it meets a
-- limit
abbrev pub RefusedFor : List (List ℕ) → ℕ → Cause → Type 0
RefusedFor tokens i Unexpected =
    IsFirstWrong Spells tokens i × (IsCurveThere tokens i → ⊥) × (IsFarThere tokens i → ⊥)
RefusedFor tokens i Curved = IsFirstWrong Spells tokens i × IsCurveThere tokens i
RefusedFor tokens i Beyond = IsFirstWrong Spells tokens i × IsFarThere tokens i
RefusedFor tokens i Deep = IsLimit tokens i Deep
RefusedFor tokens i Full = IsLimit tokens i Full

-- the token i is the leftmost that is refused, for the cause
pub record IsRefused (tokens : List (List ℕ)) (i : ℕ) (c : Cause) : Type 0 where
  pub within : i ≤ length tokens
  pub begins : Begins Spells (take i tokens)
  pub unlimited : (j : ℕ) → j < i → limit_at tokens j ≡ None
  pub refused : RefusedFor tokens i c

-- the text is refused so: the error names the leftmost token's cause and offset, and the text's length where
-- it ends early
pub record IsRefusal (text : List ℕ) (e : WktError) : Type 0 where
  pub token : ℕ
  pub cause : Cause
  pub first : IsRefused (words text) token cause
  pub named : e ≡ refusal cause (offset (length text) (tokens_of text) token)
