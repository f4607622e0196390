use Rattle.std.proofs.Common.{sym, arith}
use Rattle.std.proofs.lemmas.Int.{ints}
use Rattle.cv_geom.proofs.CauseLemmas.{view_in_range}
use Rattle.cv_geom.proofs.range.kept.Goals as goal

pub made-requires : goal.made-requires
made-requires c =
    view_in_range _ (omega (arith, ints)) c.requires.wide c.requires.high (sym c.if-is_in_range.ensures)
