use Rattle.std.proofs.Common.{◌∙◌, sym}
use Rattle.cv_tables.proofs.MakingLemmas.{input_there}
use Rattle.cv_tables.proofs.making.input_of.Goals as goal

pub unreachable-requires : goal.unreachable-requires
unreachable-requires c =
    input_there c.args.store.now c.args.layer c.requires (sym c.in_ok-input.ensures ∙ c.in-None.is)
