-- The rule of the table: what its words, its slot and all views say of one list.
use Rattle.std.specs.Prelude.{◌≡◌, ℕ, ◌+◌, ◌-◌, ◌%◌, ◌^◌, ◌<◌, ◌≤◌, ◌⊎◌, List, [], ◌∷◌, length, true, false, if◌then◌else◌, All, Option, Some, None}
use mathlib.Core.Option as m
use lib.ListN.{get_elem?}
use Rattle.atomic_table.specs.Table.{State, Me}
use Rattle.atomic_table.specs.Seated.{TableId}
use Rattle.atomic_table.specs.declared.shared.Seat.{Seat}
use Rattle.cv_turn.specs.declared.view.View.{View}
use Rattle.cv_turn.specs.Held.{StartsWith, own_of}
use Rattle.cv_turn.specs.View.{spent}

-- how many tickets are served before this one, where s is served now. Tickets count modulo 2^64
abbrev pub offset : ℕ → ℕ → ℕ
offset ticket s = (ticket + (2 ^ 64 - s)) % 2 ^ 64

-- f of each view, added up
abbrev pub total : {V : Type 0} → (V → ℕ) → List V → ℕ
total f [] = 0
total f (v ∷ vs) = f v + total f vs

module _ {F E : Type 0} where
  -- 1 for a view with a ticket
  abbrev pub flag : View F E → ℕ
  flag v = if v.waits then 1 else 0

  -- how many numbers a view has
  abbrev pub count_of : View F E → ℕ
  count_of v = v.count

  -- the seat `id` has this view
  abbrev pub Sits : List (View F E) → ℕ → View F E → Type 0
  Sits views id v = get_elem? views id ≡ m.some v

  -- the number is one of the view's
  abbrev pub Owns : View F E → ℕ → Type 0
  Owns v n = (v.first ≤ n) × (n < v.first + v.count)

  -- What a view says is true, where the turn began with this fixed part, the list is `log`, and `out` tickets are out
  -- from the served one on
  pub record Fits (caller : E → ℕ) (start : F) (callers : ℕ) (log : List E) (out served : ℕ)
      (v : View F E) : Type 0 where
    -- the fixed part, and beginnings of the list
    pub known : v.fixed ≡ Some start
    pub seen : StartsWith log v.seen
    pub told : StartsWith log v.told
    -- its numbers, and for each of them exactly the entries with it
    pub range : v.first + v.count ≤ callers
    pub own : v.own ≡ own_of caller v.first v.count log
    -- only a seat with a number has a ticket, which is one of those that are out
    pub numbered : v.waits ≡ true → 0 < v.count
    pub given : v.waits ≡ true → (v.ticket < 2 ^ 64) × (offset v.ticket served < out)
    -- whoever has its turn has the served ticket
    pub turn : v.inside ≡ true → (v.waits ≡ true) × (v.ticket ≡ served)

  -- two seats with a ticket have different ones
  abbrev pub TicketsDiffer : List (View F E) → Type 0
  TicketsDiffer views =
      (a b : ℕ) (v w : View F E)
      → Sits views a v → Sits views b w → v.waits ≡ true → w.waits ≡ true → v.ticket ≡ w.ticket → a ≡ b

  -- a seat has the ticket that is served after k others
  abbrev pub HasTicket : List (View F E) → ℕ → ℕ → Type 0
  HasTicket views served k =
      (id : ℕ) × (v : View F E) × Sits views id v × (v.waits ≡ true) × (offset v.ticket served ≡ k)

  -- Each ticket from the served one up to the next to be given stands in exactly one view
  pub record Tickets (out served : ℕ) (views : List (View F E)) : Type 0 where
    pub flags : total flag views ≡ out
    pub once : TicketsDiffer views
    pub queue : (k : ℕ) → k < out → HasTicket views served k

  -- two seats have no number in common
  abbrev pub NumbersDiffer : List (View F E) → Type 0
  NumbersDiffer views =
      (a b n : ℕ) (v w : View F E) → Sits views a v → Sits views b w → Owns v n → Owns w n → a ≡ b

  -- Each number stands in exactly one view
  pub record Numbers (callers : ℕ) (views : List (View F E)) : Type 0 where
    pub numbers : total count_of views ≡ callers
    pub apart : NumbersDiffer views
    pub stands : (n : ℕ) → n < callers → (id : ℕ) × (v : View F E) × Sits views id v × Owns v n

module _ {H F E : Type 0} where
  -- The slot holds the value, whose list is the log, and nobody has its turn
  pub record IsHome (fixed : H → F) (entries : H → List E) (start : F) (log : List E)
      (slot : List (m.Option (Option H))) (views : List (View F E)) : Type 0 where
    pub value : H
    pub home : slot ≡ m.some (Some value) ∷ []
    pub known : fixed value ≡ start
    pub listed : entries value ≡ log
    pub nobody : (id : ℕ) (v : View F E) → Sits views id v → v.inside ≡ false

  -- The value is out with a seat that has its turn, and the list that this seat knows is the log
  pub record IsOut (log : List E) (slot : List (m.Option (Option H))) (views : List (View F E)) : Type 0 where
    pub away : slot ≡ m.none ∷ []
    pub id : ℕ
    pub view : View F E
    pub sits : Sits views id view
    pub inside : view.inside ≡ true
    pub listed : view.taken ≡ log

-- The rule. There is one list, the log, of which the words, the slot and all views tell the truth
pub record Kept {H F E : Type 0} (fixed : H → F) (entries : H → List E) (caller : E → ℕ) (start : F) (callers : ℕ)
    (s : State (Option H) (View F E)) : Type 0 where
  pub log : List E
  pub served : ℕ
  pub out : ℕ
  -- the number of entries, the next ticket, and the served one
  pub words : s.words ≡ length log ∷ (served + out) % 2 ^ 64 ∷ served ∷ []
  pub fits : (served < 2 ^ 64) × (length log < 2 ^ 64) × (callers ≤ 64)
  -- a view that isn't spent is true
  pub each : (id : ℕ) (v : View F E) → Sits s.views id v
      → (v ≡ spent) ⊎ Fits caller start callers log out served v
  pub tickets : Tickets out served s.views
  pub numbers : Numbers callers s.views
  -- the value is at home, or out with the seat whose ticket is served
  pub place : IsHome fixed entries start log s.homes s.views ⊎ IsOut log s.homes s.views
  -- each entry is of one of the numbers, each of which stands in a view
  pub named : All (λ e. caller e < callers) log

-- the table has three words and one slot
abbrev pub IsSized : TableId → Type 0
IsSized z = (z.words ≡ 3) × (z.slots ≡ 1)

module _ {S F E : Type 0} where
  -- the seat is one of this table, which has three words and one slot
  abbrev pub IsSeatOf : TableId → Seat S (View F E) → Type 0
  IsSeatOf z seat = IsSized z × (seat.table_id ≡ z)

  -- a seat after a step
  abbrev pub IsSameSeat : Seat S (View F E) → Seat S (View F E) → Type 0
  IsSameSeat old new = (new.table_id ≡ old.table_id) × (new.id ≡ old.id)

  -- it has no ticket and holds nothing
  abbrev pub IsIdle : Me S (View F E) → Type 0
  IsIdle me = (me.0.waits ≡ false) × (me.0.inside ≡ false) × (me.1 ≡ [])

  -- it has this ticket, whose turn hasn't come
  abbrev pub IsWaiting : ℕ → Me S (View F E) → Type 0
  IsWaiting ticket me = (me.0.waits ≡ true) × (me.0.ticket ≡ ticket) × (me.0.inside ≡ false) × (me.1 ≡ [])

-- it has its turn, and the slot, from which the value is taken
abbrev pub IsInTurn : {H F E : Type 0} → Me (Option H) (View F E) → Type 0
IsInTurn me = (me.0.inside ≡ true) × (me.1 ≡ (0, None) ∷ [])
