-- What a pass knows, as its caller sees it.
use Rattle.std.specs.Prelude.{◌≡◌, ℕ, ◌+◌, ◌-◌, ◌<◌, ◌≤◌, ◌⊎◌, ◌++◌, List, [], ◌∷◌, length, take, drop, replicate, Option, Some, None, true, false, if◌then◌else◌}
use Rattle.atomic_table.specs.Table.{Me}
use Rattle.atomic_table.specs.Seated.{TableId}
use Rattle.cv_turn.specs.declared.view.View.{View}
use Rattle.cv_turn.specs.Held.{longer, own_of, grown}

-- What a pass knows of the value of its turn
pub record Knowledge (F E : Type 0) : Type 0 where
  -- the turn that the pass is of, and which of its passes it is
  pub table : TableId
  pub place : ℕ
  -- the part of the value that never changes
  pub fixed : Option F
  -- the list of entries as it was seen last
  pub seen : List E
  -- the first of its numbers, which is its own, and for each of them the entries with that number
  pub first : ℕ
  pub own : List (List E)
  -- in a turn, the list as it was at `enter`
  pub turn : Option (List E)

-- what a seat with this view knows
abbrev pub knowledge_of : {F E : Type 0} → TableId → ℕ → View F E → Knowledge F E
knowledge_of table place v = record {
  table = table;
  place = place;
  fixed = v.fixed;
  seen = v.seen;
  first = v.first;
  own = v.own;
  turn = if v.inside then Some v.taken else None;
}

-- A pass has the numbers and the length that its view says, and holds the slot, emptied, just in its turn
pub record IsPass {H F E : Type 0} (me : Me (Option H) (View F E)) (first count known : ℕ) : Type 0 where
  pub first_is : me.0.first ≡ first
  pub count_is : me.0.count ≡ count
  pub some_number : 0 < count
  pub few : first + count ≤ 64
  pub owned : length me.0.own ≡ count
  pub outside : me.0.inside ≡ false → (me.0.waits ≡ false) × (me.1 ≡ []) × (known ≡ length me.0.seen)
  pub in_turn : me.0.inside ≡ true → (me.0.waits ≡ true) × (me.1 ≡ (0, None) ∷ []) × (known ≡ length me.0.taken)

-- A note has no numbers and no turn
pub record IsNote {H F E : Type 0} (me : Me (Option H) (View F E)) (known : ℕ) : Type 0 where
  pub no_number : (me.0.count ≡ 0) × (me.0.own ≡ [])
  pub outside : (me.0.inside ≡ false) × (me.0.waits ≡ false) × (me.1 ≡ [])
  pub seen : known ≡ length me.0.seen

-- the list is this one, or this one with one entry of the number behind it
abbrev pub MayAdd : {E : Type 0} → (E → ℕ) → ℕ → List E → List E → Type 0
MayAdd {E} caller number before after =
    (after ≡ before) ⊎ ((e : E) × (caller e ≡ number) × (after ≡ before ++ e ∷ []))

module _ {E : Type 0} where
  -- In its turn, a pass may leave with the list as it was at `enter`, or with one entry of its own number behind it
  abbrev pub MayLeave : (E → ℕ) → ℕ → Option (List E) → List E → Type 0
  MayLeave caller number None xs = ⊥
  MayLeave caller number (Some before) xs = MayAdd caller number before xs

  -- what the list has got since `enter`
  abbrev pub new_since : Option (List E) → List E → List E
  new_since None xs = []
  new_since (Some before) xs = drop (length before) xs

module _ {F E : Type 0} where
  -- of each number of the pass, the list has exactly the entries that the pass knows
  abbrev pub HasOwn : (E → ℕ) → Knowledge F E → List E → Type 0
  HasOwn caller p xs = p.own ≡ own_of caller p.first (length p.own) xs

  -- the first pass of a turn: it has all numbers, and nothing was made
  abbrev pub IsFirst : TableId → F → ℕ → Knowledge F E → Type 0
  IsFirst table fixed callers p =
      p ≡ record {
        table = table;
        place = 0;
        fixed = Some fixed;
        seen = [];
        first = 0;
        own = replicate callers [];
        turn = None;
      }

  -- the pass after a turn that it left with this list, of which what is new is its own
  abbrev pub after_turn : Knowledge F E → List E → Knowledge F E
  after_turn p xs = record p { seen = xs; own = grown p.own (new_since p.turn xs); turn = None }

  -- the pass without its last `count` numbers
  abbrev pub without_last : ℕ → Knowledge F E → Knowledge F E
  without_last count p = record p { own = take (length p.own - count) p.own }

  -- the pass with the last `count` numbers of p, which has seen what p has
  pub record IsPartOf (p : Knowledge F E) (count : ℕ) (part : Knowledge F E) : Type 0 where
    pub table : part.table ≡ p.table
    pub fixed : part.fixed ≡ p.fixed
    pub seen : part.seen ≡ p.seen
    pub first : part.first ≡ p.first + (length p.own - count)
    pub own : part.own ≡ drop (length p.own - count) p.own
    pub turn : part.turn ≡ None

  -- the pass with the numbers of another behind its own, after it has seen what both had
  abbrev pub after_join : Knowledge F E → Knowledge F E → Knowledge F E
  after_join p other = record p { seen = longer p.seen other.seen; own = p.own ++ other.own }

  -- the note of what p has seen
  abbrev pub IsNoteOf : Knowledge F E → Knowledge F E → Type 0
  IsNoteOf p note = (note.table ≡ p.table) × (note.fixed ≡ p.fixed) × (note.seen ≡ p.seen)

  -- the same pass later: with the same numbers, and in no turn
  abbrev pub IsSamePass : Knowledge F E → Knowledge F E → Type 0
  IsSamePass p q = (q.table ≡ p.table) × (q.first ≡ p.first) × (length q.own ≡ length p.own) × (q.turn ≡ None)
