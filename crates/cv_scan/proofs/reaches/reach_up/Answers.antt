use Rattle.cv_scan.proofs.reaches.reach_up.Goals as goal

pub returns : goal.returns
returns c =
    c.column_of_crossing.ensures c.args.columns c.requires.within c.columns_between-between.ensures c.requires.low
    c.requires.high
