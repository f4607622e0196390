use Rattle.cv_pen.proofs.strokes.stroke.Given as goal

-- the count is of the blank ledger
abbrev pub ghosts-whole_stroke : goal.ghosts-whole_stroke
ghosts-whole_stroke a = record { name = a.blank.name; parts = a.blank.parts }
