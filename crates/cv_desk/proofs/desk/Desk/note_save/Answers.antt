use Rattle.std.proofs.Common.{sym, subst, refl, map, ◌+◌, ◌≤◌}
use Rattle.cv_event.specs.declared.entry.Act.TheVariants as act
use Rattle.cv_event.specs.Legality.{Allows}
use Rattle.cv_store.specs.Stores.{project_of}
use Rattle.cv_tables.specs.Rows.{owed}
use Rattle.cv_tables.specs.Tabs.{Tab}
use Rattle.cv_desk.specs.Desks.{History, state}
use Rattle.cv_desk.proofs.BasisLemmas.{jobs_same}
use Rattle.cv_desk.proofs.KeepingLemmas.{noted, same_holds}
use Rattle.cv_desk.proofs.desk.Desk.note_save.Goals as goal

pub invariant_of-self : goal.invariant_of-self
invariant_of-self c =
    let h : History = record {
      opening = record {
        project = project_of c.self.inside.opened.value;
        canvases = map (λ (tab : Tab). tab.spec) c.self.inside.blank.value;
      };
      journal = c.self.inside.journal.entries;
      spare = c.self.inside.journal.spare;
      tables = record { store = c.self.inside.store; tabs = c.self.inside.canvases; rows = c.self.inside.jobs };
    } in
    let room = subst (λ n. owed n.tables.rows + 1 ≤ n.spare) (sym c.self.view_is) c.requires.room in
    let allowed = subst (λ n. Allows (state n) c.args.who (act.Save c.args.canvas c.args.job)) (sym c.self.view_is) c.requires.taken in
    (noted h (act.Save c.args.canvas c.args.job) c.args.who c.push.new.self.spare h.tables c.push.new.self.entries c.self.invariant
    c.push.ensures.entries allowed refl (same_holds h.tables h.spare c.push.new.self.spare c.push.ensures.spare room c.self.invariant.holds)
    (jobs_same h.tables.rows) refl refl c.self.invariant.named).0
