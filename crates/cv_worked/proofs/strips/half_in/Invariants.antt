use Rattle.cv_worked.proofs.strips.half_in.Given as goal

-- the count is of the blank ledger
abbrev pub ghosts-strip_of : goal.ghosts-strip_of
ghosts-strip_of a = record { name = a.blank.name; parts = a.blank.parts }
