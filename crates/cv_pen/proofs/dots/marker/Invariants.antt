use Rattle.cv_pen.proofs.dots.marker.Given as goal

-- the count is of the blank ledger
abbrev pub ghosts-whole_marker : goal.ghosts-whole_marker
ghosts-whole_marker a = record { name = a.blank.name; parts = a.blank.parts }
