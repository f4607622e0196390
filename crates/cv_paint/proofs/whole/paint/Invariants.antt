use Rattle.cv_paint.proofs.whole.paint.Given as goal

-- the count is of the blank ledger
abbrev pub ghosts-paint_counted : goal.ghosts-paint_counted
ghosts-paint_counted g a = record { name = a.blank.name; parts = a.blank.parts }
