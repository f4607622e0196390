-- What the reader answers is the one answer to the text.
use Rattle.std.proofs.Common.{◌∙◌}
use Rattle.cv_reading.proofs.ReadingLemmas.{exact_of}
use Rattle.cv_dtext.specs.declared.options.TextError.TheVariants.{NoMemory}
use Rattle.cv_dtext.specs.Refusals.{features_of}
use Rattle.cv_dtext.proofs.FirstLemmas.{found_of, of_read, fault_in}
use Rattle.cv_dtext.proofs.read.Goals as goal

pub returns-clause-found : goal.returns-clause-found
returns-clause-found c =
    found_of c.args.options.now c.args.bytes.now c.read_table.result c.read_table.ensures.ok

pub returns-clause-only : goal.returns-clause-only
returns-clause-only c = λ table read more.
    let text = features_of c.args.options.now c.args.bytes.now in
    exact_of NoMemory c.read_table.result text c.read_table.ensures.ok c.read_table.ensures.err more
    ∙ of_read c.args.options.now c.args.bytes.now table read

pub returns-clause-fault : goal.returns-clause-fault
returns-clause-fault c = λ e more.
    fault_in c.args.options.now c.args.bytes.now c.read_table.result e
    (exact_of NoMemory c.read_table.result
    (features_of c.args.options.now c.args.bytes.now) c.read_table.ensures.ok c.read_table.ensures.err
    more)

pub returns-clause-exact : goal.returns-clause-exact
returns-clause-exact c = λ more.
    exact_of NoMemory c.read_table.result
    (features_of c.args.options.now c.args.bytes.now) c.read_table.ensures.ok c.read_table.ensures.err
    more
