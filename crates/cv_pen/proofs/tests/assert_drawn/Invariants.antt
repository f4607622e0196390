use Rattle.cv_pen.proofs.tests.assert_drawn.Given as goal

-- the count is of the blank ledger
abbrev pub ghosts-runs_through : goal.ghosts-runs_through
ghosts-runs_through g a = record { name = a.blank.name; parts = a.blank.parts }
