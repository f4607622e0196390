use Rattle.cv_worked.proofs.sides.beside_whole.Given as goal

-- the count is of the blank ledger
abbrev pub ghosts-painted : goal.ghosts-painted
ghosts-painted a = record { name = a.blank.name; parts = a.blank.parts }
