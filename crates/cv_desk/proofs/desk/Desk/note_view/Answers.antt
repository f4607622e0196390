use Rattle.std.proofs.Common.{sym, subst, refl, map, ◌+◌, ◌≤◌}
use Rattle.cv_event.specs.declared.entry.Act.TheVariants as act
use Rattle.cv_store.specs.Stores.{project_of}
use Rattle.cv_tables.specs.Rows.{owed}
use Rattle.cv_tables.specs.Tabs.{Tab, tab_viewed}
use Rattle.cv_desk.specs.Desks.{History, state, Notes, Holds}
use Rattle.cv_desk.specs.Answers.{FitsCanvas}
use Rattle.cv_desk.proofs.BasisLemmas.{jobs_same}
use Rattle.cv_desk.proofs.NamedLemmas.{named_one}
use Rattle.cv_desk.proofs.KeepingLemmas.{noted, view_holds, view_seen}
use Rattle.cv_desk.proofs.desk.Desk.note_view.Goals as goal

pub invariant_of-self : goal.invariant_of-self
invariant_of-self c =
    let h : History = record {
      opening = record {
        project = project_of c.self.inside.opened.value;
        canvases = map (λ (tab : Tab). tab.spec) c.self.inside.blank.value;
      };
      journal = c.self.inside.journal.entries;
      spare = c.self.inside.journal.spare;
      tables = record { store = c.self.inside.store; tabs = c.self.inside.canvases; rows = c.self.inside.jobs };
    } in
    let tabs = c.set_view.new.self in
    let a = act.View c.args.canvas c.args.view in
    let room = subst (λ n. owed n.tables.rows + 1 ≤ n.spare) (sym c.self.view_is) c.requires.room in
    let allowed = subst (λ n. FitsCanvas (state n) c.args.canvas c.args.view) (sym c.self.view_is) c.requires.fits in
    let holds = subst (λ l. Holds (record h.tables { tabs = l }) c.push.new.self.spare) (sym c.set_view.ensures)
    (view_holds h.tables h.spare c.push.new.self.spare c.args.canvas c.args.view c.push.ensures.spare room c.self.invariant.holds) in
    let both = noted h a c.args.who c.push.new.self.spare (record h.tables { tabs = tabs }) c.push.new.self.entries c.self.invariant
    c.push.ensures.entries allowed (view_seen h c.args.who c.args.canvas c.args.view tabs c.set_view.ensures) holds (jobs_same h.tables.rows) refl refl
    (named_one h.tables.rows (tab_viewed c.args.view) (λ tab. refl) c.args.canvas h.tables.tabs tabs c.set_view.ensures c.self.invariant.named) in
    both.0

pub returns : goal.returns
returns c =
    let h : History = record {
      opening = record {
        project = project_of c.self.inside.opened.value;
        canvases = map (λ (tab : Tab). tab.spec) c.self.inside.blank.value;
      };
      journal = c.self.inside.journal.entries;
      spare = c.self.inside.journal.spare;
      tables = record { store = c.self.inside.store; tabs = c.self.inside.canvases; rows = c.self.inside.jobs };
    } in
    let tabs = c.set_view.new.self in
    let a = act.View c.args.canvas c.args.view in
    let room = subst (λ n. owed n.tables.rows + 1 ≤ n.spare) (sym c.self.view_is) c.requires.room in
    let allowed = subst (λ n. FitsCanvas (state n) c.args.canvas c.args.view) (sym c.self.view_is) c.requires.fits in
    let holds = subst (λ l. Holds (record h.tables { tabs = l }) c.push.new.self.spare) (sym c.set_view.ensures)
    (view_holds h.tables h.spare c.push.new.self.spare c.args.canvas c.args.view c.push.ensures.spare room c.self.invariant.holds) in
    let both = noted h a c.args.who c.push.new.self.spare (record h.tables { tabs = tabs }) c.push.new.self.entries c.self.invariant
    c.push.ensures.entries allowed (view_seen h c.args.who c.args.canvas c.args.view tabs c.set_view.ensures) holds (jobs_same h.tables.rows) refl refl
    (named_one h.tables.rows (tab_viewed c.args.view) (λ tab. refl) c.args.canvas h.tables.tabs tabs c.set_view.ensures c.self.invariant.named) in
    let new : History = record {
      opening = h.opening;
      journal = c.push.new.self.entries;
      spare = c.push.new.self.spare;
      tables = record h.tables { tabs = tabs };
    } in
    subst (λ n. Notes n new c.args.who a) c.self.view_is both.1
