use Rattle.std.proofs.Common.{◌≡◌, arith, length}
use Rattle.std.proofs.lemmas.List.{nil_from_length}
use Rattle.std.proofs.lemmas.Bool.Decides.{nat_tests}
use Rattle.cv_chunks.proofs.RunLemmas.{run_taken}
use Rattle.cv_chunks.proofs.elements.Elements.refill.Goals as goal

pub returns-then-self-len-clause-same : goal.returns-then-self-len-clause-same
returns-then-self-len-clause-same g c =
    let none : length c.args.self.now.run.now ≡ 0 = grind (
      arith,
      nat_tests,
      c.is_empty.ensures,
      c.if-is_empty.true,
    ) in
    rw (nil_from_length c.args.self.now.run.now none)
    (run_taken c.args.self.now.list.now c.run_from-self.result.now c.args.self.now.behind
    c.run_from-self.ensures)
