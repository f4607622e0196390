-- The value of a turn, and the pass that has it.
use Rattle.std.specs.Prelude.{◌≡◌}
use Rattle.cv_turn.specs.declared.guard.Guard.{Guard}
use Rattle.cv_turn.specs.Pass.{Knowledge}

module _ {H F E : Type 0} where
  -- the value
  abbrev pub held_of : Guard H F E → H
  held_of g = g.held

  -- the guard with another value
  abbrev pub with_held : Guard H F E → H → Guard H F E
  with_held g w = record g { held = w }

  -- the guard is of this pass
  abbrev pub IsGuardOf : Knowledge F E → Guard H F E → Type 0
  IsGuardOf p g = (g.of.value.table_id ≡ p.table) × (g.of.value.id ≡ p.place)
