use Rattle.std.proofs.Common.{sym}
use Rattle.cv_tables.specs.Rows.{row_ended}
use Rattle.cv_tables.proofs.TableLemmas.{row_none}
use Rattle.cv_tables.proofs.jobs.JobTable.end.Goals as goal

pub returns-in-None : goal.returns-in-None
returns-in-None c = sym (row_none (row_ended c.args.how) c.args.self.now c.args.job c.in-None.ensures)
