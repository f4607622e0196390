-- What each step on the table tells the seat that makes it, by the number found and the seat before.
use Rattle.std.specs.Prelude.{◌≡◌, ◌≢◌, ℕ, List, [], ◌∷◌, Option, Some, None}
use Rattle.atomic_table.specs.Table.{Me, Step, rest}
use Rattle.cv_turn.specs.declared.view.View.{View}
use Rattle.cv_turn.specs.Held.{StartsWith, own_of}
use Rattle.cv_turn.specs.View.{drawn, entered, counted, unticketed, planned, looked}

module _ {S F E : Type 0} where
  -- it has the ticket that was found
  abbrev pub HasDrawn : Step S → Me S (View F E) → ℕ → Me S (View F E) → Type 0
  HasDrawn st me n after = after ≡ (drawn me.0 n, me.1)

  -- it has no ticket, and has given the slot back
  abbrev pub HasServed : Step S → Me S (View F E) → ℕ → Me S (View F E) → Type 0
  HasServed st me n after = after ≡ (unticketed me.0, rest me.1)

  -- it is about to hand over as many numbers as the step's operand says
  abbrev pub HasPlanned : Step S → Me S (View F E) → ℕ → Me S (View F E) → Type 0
  HasPlanned st me n after = after ≡ (planned me.0 st.first, me.1)

  -- it has seen the longer of the lists that it knew, which begins with both
  abbrev pub HasLearned : Step S → Me S (View F E) → ℕ → Me S (View F E) → Type 0
  HasLearned st me n after =
      (after ≡ (looked me.0, me.1))
      × StartsWith (looked me.0).seen me.0.seen × StartsWith (looked me.0).seen me.0.told

module _ {H F E : Type 0} (fixed : H → F) (entries : H → List E) (caller : E → ℕ) where
  -- What the view says is true of the value: its fixed part, how its list begins, and the entries of each own number
  pub record IsTrueOf (v : View F E) (value : H) : Type 0 where
    pub known : v.fixed ≡ Some (fixed value)
    pub seen : StartsWith (entries value) v.seen
    pub own : v.own ≡ own_of caller v.first v.count (entries value)

  -- where its turn has come it has taken the slot with the value; else nothing changed
  abbrev pub HasLooked : Step (Option H) → Me (Option H) (View F E) → ℕ → Me (Option H) (View F E) → Type 0
  HasLooked st me n after =
      (n ≡ me.0.ticket →
      (value : H) × (after ≡ (entered me.0 (entries value), (0, Some value) ∷ me.1)) × IsTrueOf me.0 value)
      × (n ≢ me.0.ticket → after ≡ me)

module _ {H E : Type 0} (entries : H → List E) where
  -- the list of the value in a slot
  abbrev pub list_in : Option H → List E
  list_in None = []
  list_in (Some value) = entries value

  -- the list in the slot that was taken last
  abbrev pub carried_list : List (ℕ × Option H) → List E
  carried_list [] = []
  carried_list (x ∷ xs) = list_in x.1

module _ {H F E : Type 0} (entries : H → List E) where
  -- it has seen the list of the value that it holds, of which what is new is its own
  abbrev pub HasCounted : Step (Option H) → Me (Option H) (View F E) → ℕ → Me (Option H) (View F E) → Type 0
  HasCounted st me n after = after ≡ (counted me.0 (carried_list entries me.1), me.1)
