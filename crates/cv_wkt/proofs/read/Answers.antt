-- What the loop answers is the one answer to the text.
use Rattle.cv_wkt.specs.Refusals.{geometry_of}
use Rattle.cv_model.specs.declared.wkt_error.WktError.TheVariants.{NoMemory}
use Rattle.cv_reading.proofs.ReadingLemmas.{exact_of}
use Rattle.cv_wkt.proofs.AnswerLemmas.{found_of, only_of, fault_of}
use Rattle.cv_wkt.proofs.read.Goals as goal

pub returns-clause-found : goal.returns-clause-found
returns-clause-found c = found_of c.args.text.now c.scan.result c.scan.ensures.ok

pub returns-clause-only : goal.returns-clause-only
returns-clause-only c = λ g h n.
    only_of c.args.text.now c.scan.result g
    (exact_of NoMemory c.scan.result (geometry_of c.args.text.now) c.scan.ensures.ok c.scan.ensures.err n)
    h

pub returns-clause-fault : goal.returns-clause-fault
returns-clause-fault c = λ e n.
    fault_of c.args.text.now c.scan.result e
    (exact_of NoMemory c.scan.result (geometry_of c.args.text.now) c.scan.ensures.ok c.scan.ensures.err n)

pub returns-clause-exact : goal.returns-clause-exact
returns-clause-exact c =
    λ n. exact_of NoMemory c.scan.result (geometry_of c.args.text.now) c.scan.ensures.ok c.scan.ensures.err n
