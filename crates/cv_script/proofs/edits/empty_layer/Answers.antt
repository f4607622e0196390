use Rattle.cv_script.proofs.KindLemmas.{no_features}
use Rattle.cv_script.proofs.edits.empty_layer.Goals as goal

pub of-table-requires : goal.of-table-requires
of-table-requires c = rw (c.new.ensures, c.new-2.ensures) (no_features c.args.columns)
