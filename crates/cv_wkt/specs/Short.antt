-- The coordinates and points that are read the short way, and what that way says of the rest of a text.
use Rattle.std.specs.Prelude.{◌≡◌, ℕ, ◌+◌, ◌-◌, ◌*◌, ◌^◌, ◌<◌, ◌≤◌, true, ℤ, pos, neg_ℤ, List, ◌∷◌}
use Rattle.std.specs.Prelude.{length, take, drop, fold, get_or, Some, Result}
use Rattle.std.specs.Char.{is_ascii_digit}
use Rattle.std.specs.List.{list_all}
use Rattle.cv_model.specs.Positions.{IsCoordinate}
use Rattle.cv_model.specs.Geometries.{GeometryLists}
use Rattle.cv_model.specs.declared.wkt_error.WktError.{WktError}
use Rattle.cv_reading.specs.Tokens.{is_word, cut}
use Rattle.cv_number.specs.declared.fixed.Fixed.TheVariants.{Value}
use Rattle.cv_number.specs.Reader.{decimal_of}
use Rattle.cv_wkt.specs.declared.place.Frame.{Frame}
use Rattle.cv_wkt.specs.declared.place.Frame.TheVariants.{LinePoints, RingPoints}
use Rattle.cv_wkt.specs.declared.place.Sort.TheVariants.{Ordinates}
use Rattle.cv_wkt.specs.declared.place.Now.TheVariants.{Begin}
use Rattle.cv_wkt.specs.Kind.{byte_kind}
use Rattle.cv_wkt.specs.Pieces.{added}
use Rattle.cv_wkt.specs.Reader.{State}
use Rattle.cv_wkt.specs.Refusals.{answer}

-- ---- coordinates

-- so many bytes at the front are digits, which behind one number write another
pub record AreDigits (bytes : List ℕ) (from number len : ℕ) : Type 0 where
  pub within : len ≤ length bytes
  pub digits : list_all is_ascii_digit (take len bytes) ≡ true
  pub value : number ≡ fold (λ n b. 10 * n + (b - 48)) from (take len bytes)
  pub small : (k : ℕ) → from < 10 ^ k → number < 10 ^ (k + len)

-- so many bytes at the front spell so many millionths, and behind `-` so many less than 0
pub record IsSize (bytes : List ℕ) (millionths len : ℕ) : Type 0 where
  pub some : 0 < len
  pub within : len ≤ length bytes
  pub word : list_all (λ b. is_word (byte_kind b)) (take len bytes) ≡ true
  pub unsigned : decimal_of (take len bytes) ≡ Some (Value (pos millionths))
  pub signed : decimal_of (45 ∷ take len bytes) ≡ Some (Value (neg_ℤ (pos millionths)))
  pub small : millionths ≤ 1000000000000000

-- so many bytes at the front spell a coordinate
pub record IsSpelt (bytes : List ℕ) (z : ℤ) (len : ℕ) : Type 0 where
  pub some : 0 < len
  pub within : len ≤ length bytes
  pub word : list_all (λ b. is_word (byte_kind b)) (take len bytes) ≡ true
  pub value : decimal_of (take len bytes) ≡ Some (Value z)
  pub range : IsCoordinate z

-- a byte stands at an offset
pub record StandsAt (bytes : List ℕ) (at byte : ℕ) : Type 0 where
  pub within : at < length bytes
  pub is : get_or bytes at 0 ≡ byte

-- so many bytes at the front are an x, a space, a y and a comma
pub record IsPair (bytes : List ℕ) (x y : ℤ) (len : ℕ) : Type 0 where
  pub x_len : ℕ
  pub y_len : ℕ
  pub x_is : IsSpelt bytes x x_len
  pub space : StandsAt bytes x_len 32
  pub y_is : IsSpelt (drop (x_len + 1) bytes) y y_len
  pub comma : StandsAt (drop (x_len + 1) bytes) y_len 44
  pub len_is : len ≡ x_len + 1 + y_len + 1

-- so many bytes at the front are an x, a space and a y, and `)` stands behind
pub record IsLast (bytes : List ℕ) (x y : ℤ) (len : ℕ) : Type 0 where
  pub x_len : ℕ
  pub y_len : ℕ
  pub x_is : IsSpelt bytes x x_len
  pub space : StandsAt bytes x_len 32
  pub y_is : IsSpelt (drop (x_len + 1) bytes) y y_len
  pub close : StandsAt (drop (x_len + 1) bytes) y_len 41
  pub len_is : len ≡ x_len + 1 + y_len

-- ---- points

-- the innermost list is one of a line's or a ring's points
abbrev pub IsPath : List Frame → Type 0
IsPath (LinePoints ∷ fs) = Unit {0}
IsPath (RingPoints ∷ fs) = Unit {0}
IsPath _ = ⊥

-- the next point of a line or a ring is expected
pub record IsAtPoint (s : State) : Type 0 where
  pub now : s.now ≡ Begin Ordinates
  pub path : IsPath s.frames

-- with one more point of the line or the ring, behind which another is expected
abbrev pub with_pair : ℤ → ℤ → State → State
with_pair x y s = record s {
  x = x;
  vertices = s.vertices + 1;
  parts = added LinePoints (record { x = x; y = y }) s.parts;
}

-- the answer to the text from the offset on, behind the state
abbrev pub answer_from : List ℕ → ℕ → State → Result GeometryLists WktError
answer_from text at s = answer (length text) (cut byte_kind at (drop at text)) s

-- the points between two offsets are read: the rest gives the same answer
pub record PointsAlong (text : List ℕ) (start : ℕ) (old : State) (at : ℕ) (new : State) : Type 0 where
  pub further : start ≤ at
  pub within : at ≤ length text
  pub same : answer_from text start old ≡ answer_from text at new
