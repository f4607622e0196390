use Rattle.std.proofs.Common.{subst, map}
use Rattle.cv_store.specs.Stores.{project_of}
use Rattle.cv_tables.specs.Tabs.{Tab}
use Rattle.cv_desk.specs.Desks.{History}
use Rattle.cv_desk.specs.Laws.{IsKnown}
use Rattle.cv_desk.proofs.LawLemmas.{desks_are_known}
use Rattle.cv_desk.proofs.desk.Desk.known.Goals as goal

pub returns : goal.returns
returns c =
    let h : History = record {
      opening = record {
        project = project_of c.self.inside.opened.value;
        canvases = map (λ (tab : Tab). tab.spec) c.self.inside.blank.value;
      };
      journal = c.self.inside.journal.entries;
      spare = c.self.inside.journal.spare;
      tables = record { store = c.self.inside.store; tabs = c.self.inside.canvases; rows = c.self.inside.jobs };
    } in
    subst IsKnown c.self.view_is (desks_are_known h c.self.invariant)
