use Rattle.std.proofs.Common.{◌≡◌, sym, subst, map, ◌+◌, ◌≤◌, ◌<◌, Some, length}
use Rattle.cv_event.specs.declared.entry.Act.TheVariants as act
use Rattle.cv_event.specs.States.{view_on}
use Rattle.cv_store.specs.Stores.{project_of}
use Rattle.cv_tables.specs.Rows.{owed}
use Rattle.cv_tables.specs.Tabs.{Tab}
use Rattle.cv_desk.specs.Desks.{History, state, Notes}
use Rattle.cv_desk.proofs.KeepingLemmas.{start_noted}
use Rattle.cv_desk.proofs.desk.Desk.note_start.Goals as goal

pub invariant_of-self : goal.invariant_of-self
invariant_of-self c =
    let h : History = record {
      opening = record {
        project = project_of c.self.inside.opened.value;
        canvases = map (λ (tab : Tab). tab.spec) c.self.inside.blank.value;
      };
      journal = c.self.inside.journal.entries;
      spare = c.self.inside.journal.spare;
      tables = record { store = c.self.inside.store; tabs = c.self.inside.canvases; rows = c.self.inside.jobs };
    } in
    let rows = c.start.new.self in
    let room = subst (λ n. owed n.tables.rows + 2 ≤ n.spare) (sym c.self.view_is) c.requires.room in
    let view = subst (λ n. view_on (state n) c.args.canvas ≡ Some c.args.view) (sym c.self.view_is) c.requires.view in
    let few = subst (λ n. length n.tables.rows < 4294967295) (sym c.self.view_is) c.requires.few in
    let both = start_noted h c.args.who c.args.canvas c.in-Ok.job c.push.new.self.spare c.args.view rows c.push.new.self.entries
    c.self.invariant c.len.ensures.kept.distinct view c.in-Ok.ensures.number few c.in-Ok.ensures.ok c.push.ensures.entries
    c.push.ensures.spare room in
    both.0

pub returns-in-Ok-clause-ok : goal.returns-in-Ok-clause-ok
returns-in-Ok-clause-ok c =
    let h : History = record {
      opening = record {
        project = project_of c.self.inside.opened.value;
        canvases = map (λ (tab : Tab). tab.spec) c.self.inside.blank.value;
      };
      journal = c.self.inside.journal.entries;
      spare = c.self.inside.journal.spare;
      tables = record { store = c.self.inside.store; tabs = c.self.inside.canvases; rows = c.self.inside.jobs };
    } in
    let rows = c.start.new.self in
    let a = act.Start c.args.canvas c.in-Ok.job in
    let room = subst (λ n. owed n.tables.rows + 2 ≤ n.spare) (sym c.self.view_is) c.requires.room in
    let view = subst (λ n. view_on (state n) c.args.canvas ≡ Some c.args.view) (sym c.self.view_is) c.requires.view in
    let few = subst (λ n. length n.tables.rows < 4294967295) (sym c.self.view_is) c.requires.few in
    let both = start_noted h c.args.who c.args.canvas c.in-Ok.job c.push.new.self.spare c.args.view rows c.push.new.self.entries
    c.self.invariant c.len.ensures.kept.distinct view c.in-Ok.ensures.number few c.in-Ok.ensures.ok c.push.ensures.entries
    c.push.ensures.spare room in
    let new : History = record {
      opening = h.opening;
      journal = c.push.new.self.entries;
      spare = c.push.new.self.spare;
      tables = record h.tables { rows = rows };
    } in
    subst (λ n. Notes n new c.args.who a) c.self.view_is both.1
