use Rattle.cv_scan.proofs.row.spans.Given as goal

-- the count is of the blank ledger
abbrev pub ghosts-all_spans : goal.ghosts-all_spans
ghosts-all_spans a = record { name = a.blank.name; parts = a.blank.parts }
