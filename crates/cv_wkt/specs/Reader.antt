-- The machine that reads well-known text, a token at a time.
use Rattle.std.specs.Prelude.{◌≡◌, ℕ, suc, ◌+◌, ℤ, Bool, true, false, ◌≤◌, List, [], ◌∷◌, Option, Some, None}
use Rattle.cv_model.specs.Positions.{IsCoordinate}
use Rattle.cv_model.specs.Geometries.{GeometryLists}
use Rattle.cv_reading.specs.Machines.{Machine}
use Rattle.cv_number.specs.declared.fixed.Fixed.TheVariants.{Value}
use Rattle.cv_wkt.specs.declared.kind.Word.{Word}
use Rattle.cv_wkt.specs.declared.kind.Kind.{Kind}
use Rattle.cv_wkt.specs.declared.kind.Kind.TheVariants.{Open, Close, Comma, Semicolon, Equals, Srid, Empty}
use Rattle.cv_wkt.specs.declared.kind.Kind.TheVariants.{Tag, Name, Number}
use Rattle.cv_wkt.specs.declared.place.Frame.{Frame}
use Rattle.cv_wkt.specs.declared.place.Frame.TheVariants.{OneMember, Geometries}
use Rattle.cv_wkt.specs.declared.place.Sort.TheVariants.{Ordinates, Member, Group, Geometry}
use Rattle.cv_wkt.specs.declared.place.Now.{Now}
use Rattle.cv_wkt.specs.declared.place.Now.TheVariants.{Start, BehindSrid, BehindEquals, BehindDigits, Begin}
use Rattle.cv_wkt.specs.declared.place.Now.TheVariants.{BehindWord, BehindX, Behind}
use Rattle.cv_wkt.specs.Kind.{kind_of}
use Rattle.cv_wkt.specs.Pieces.{PieceLists, nothing, added, closed, emptied, lists}
use Rattle.cv_wkt.specs.Grammar.{group_of, item, Many, One, Several, many}

-- ---- the state

-- what comes next, the open lists, innermost first, an x that waits for its y, how many vertices there are,
-- and what has been read
pub record State : Type 0 where
  pub now : Now
  pub frames : List Frame
  pub x : ℤ
  pub vertices : ℕ
  pub parts : PieceLists

-- before the first token
abbrev pub start : State
start = record { now = Start; frames = []; x = ℤ.pos 0; vertices = 0; parts = nothing }

-- the list in which an item stands
abbrev pub innermost : List Frame → Frame
innermost [] = Geometries
innermost (f ∷ fs) = f

-- what follows a geometry's word
abbrev pub behind_word : Word → Bool → Now
behind_word w true = Begin (Group (group_of w))
behind_word w false = BehindWord (group_of w)

-- at `(`
abbrev pub opened : Frame → State → State
opened f s = record s { now = Begin (item f); frames = f ∷ s.frames }

-- at EMPTY in place of a list
abbrev pub left_out : Frame → State → State
left_out f s = record s { now = Behind 0; parts = emptied f s.parts }

-- at an x
abbrev pub with_x : ℤ → State → State
with_x x s = record s { now = BehindX; x = x }

-- at a y
abbrev pub with_y : ℤ → State → State
with_y y s = record s {
  now = Behind 2;
  vertices = s.vertices + 1;
  parts = added (innermost s.frames) (record { x = s.x; y = y }) s.parts;
}

-- at a comma
abbrev pub separated : Many → Frame → State → Option State
separated One f s = None
separated Several f s = Some (record s { now = Begin (item f) })

-- at `)`
abbrev pub ended_list : Frame → List Frame → State → State
ended_list f fs s = record s { now = Behind 0; frames = fs; parts = closed f s.parts }

-- behind an item of a list
abbrev pub behind_item : List Frame → Kind → State → Option State
behind_item (f ∷ fs) Comma s = separated (many f) f s
behind_item (f ∷ fs) Close s = Some (ended_list f fs s)
behind_item _ _ s = None

-- the state behind a token; None where it can't stand
abbrev pub stepped : Now → Kind → State → Option State
stepped Start Srid s = Some (record s { now = BehindSrid })
stepped Start (Name w joined) s = Some (record s { now = behind_word w joined })
stepped BehindSrid Equals s = Some (record s { now = BehindEquals })
stepped BehindEquals (Number f true) s = Some (record s { now = BehindDigits })
stepped BehindDigits Semicolon s = Some (record s { now = Begin Geometry })
stepped (Begin Geometry) (Name w joined) s = Some (record s { now = behind_word w joined })
stepped (Begin (Group f)) Empty s = Some (left_out f s)
stepped (Begin (Group f)) Open s = Some (opened f s)
stepped (Begin Ordinates) (Number (Value x) d) s = Some (with_x x s)
stepped (Begin Member) Empty s = Some (record s { now = Behind 0 })
stepped (Begin Member) Open s = Some (opened OneMember s)
stepped (Begin Member) (Number (Value x) d) s = Some (with_x x s)
stepped (BehindWord f) Tag s = Some (record s { now = Begin (Group f) })
stepped (BehindWord f) Empty s = Some (left_out f s)
stepped (BehindWord f) Open s = Some (opened f s)
stepped BehindX (Number (Value y) d) s = Some (with_y y s)
stepped (Behind (suc n)) (Number f d) s = Some (record s { now = Behind n })
stepped (Behind n) k s = behind_item s.frames k s
stepped _ _ s = None

-- what a step that was made or refused says of the state behind it
abbrev pub Stepped : Bool → Option State → State → Type 0
Stepped true (Some t) s = s ≡ t
Stepped true None s = ⊥
Stepped false None s = Unit {0}
Stepped false (Some t) s = ⊥

-- what the state of a reader in code keeps: an x is a coordinate, and there are at most a million vertices
pub record IsState (s : State) : Type 0 where
  pub x_in : IsCoordinate s.x
  pub few : s.vertices ≤ 1000000

-- the geometry of a text that ends here
abbrev pub ended_at : Now → List Frame → PieceLists → Option GeometryLists
ended_at (Behind n) [] a = Some (lists a)
ended_at _ _ a = None

-- the machine; a token is given by its bytes
abbrev pub wkt_reader : Machine State (List ℕ) GeometryLists
wkt_reader = record {
  step = λ s bytes. stepped s.now (kind_of bytes) s;
  ends = λ s. ended_at s.now s.frames s.parts;
}
