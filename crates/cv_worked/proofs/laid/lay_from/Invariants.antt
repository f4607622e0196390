use Rattle.cv_worked.proofs.laid.lay_from.Given as goal

-- the count is of the blank ledger
abbrev pub ghosts-lay_counted : goal.ghosts-lay_counted
ghosts-lay_counted a = record { name = a.blank.name; parts = a.blank.parts }
