use Rattle.cv_worked.proofs.stops.is_whole_with.Given as goal

-- the count is of the blank ledger
abbrev pub ghosts-by_strips : goal.ghosts-by_strips
ghosts-by_strips a = record { name = a.blank.name; parts = a.blank.parts }
