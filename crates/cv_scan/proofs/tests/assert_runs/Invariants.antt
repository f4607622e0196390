use Rattle.cv_scan.proofs.tests.assert_runs.Given as goal

-- the count is of the blank ledger
abbrev pub ghosts-runs_in : goal.ghosts-runs_in
ghosts-runs_in g a = record { name = a.blank.name; parts = a.blank.parts }
