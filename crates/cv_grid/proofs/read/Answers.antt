-- The answer to the text without its mark, which the grammar says.
use Rattle.std.proofs.Common.{sym, ap, ◌∙◌}
use Rattle.cv_grid.specs.Tokens.{without_mark}
use Rattle.cv_grid.specs.Answers.{grid_of}
use Rattle.cv_grid.proofs.AnswerLemmas.{grid_spelt, grid_refused, spelt_if}
use Rattle.cv_grid.proofs.read.Goals as goal

pub returns-clause-exact : goal.returns-clause-exact
returns-clause-exact c = λ other. c.read_grid.ensures other ∙ ap (grid_of c.args.room) c.without_mark.ensures

pub returns-clause-found : goal.returns-clause-found
returns-clause-found c =
    spelt_if c.args.room (without_mark c.args.bytes.now) c.read_grid.result (returns-clause-exact c)

pub returns-clause-only : goal.returns-clause-only
returns-clause-only c = λ g h other. returns-clause-exact c other
    ∙ (grid_spelt c.args.room (without_mark c.args.bytes.now) g).1 h

pub returns-clause-fault : goal.returns-clause-fault
returns-clause-fault c = λ e other.
    let same = returns-clause-exact c other in
    let refused = grid_refused c.args.room (without_mark c.args.bytes.now) e in
    (λ q. refused.0 (sym same ∙ q), λ h. same ∙ refused.1 h)
