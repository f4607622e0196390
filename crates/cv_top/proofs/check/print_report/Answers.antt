-- The text that is written is the report.
use Rattle.std.proofs.Common.{List, ℕ, [], subst, ◌∙◌}
use Rattle.cv_outside.specs.Seen.{sink_seen}
use Rattle.cv_top.specs.Outcomes.{Made}
use Rattle.cv_top.specs.Runs.{IsWritten}
use Rattle.cv_top.proofs.check.print_report.Goals as goal

pub returns-in-Ok-clause-written : goal.returns-in-Ok-clause-written
returns-in-Ok-clause-written g c = λ tray.
    subst (λ (text : List ℕ). IsWritten c.write_text.result (Made [] text) tray tray (sink_seen g.O.Sink c.args.out.now) (sink_seen g.O.Sink c.write_text.new.out))
    (c.as_slice.ensures.value ∙ c.in-Ok.ensures) (c.write_text.ensures.written tray)
