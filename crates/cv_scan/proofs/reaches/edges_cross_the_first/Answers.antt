use Rattle.cv_scan.proofs.ReachLemmas.{edge-crosses}
use Rattle.cv_scan.proofs.reaches.edges_cross_the_first.Goals as goal

pub returns : goal.returns
returns c = edge-crosses
