use Rattle.std.proofs.Common.{◌≡◌, sym, subst, refl, map, None}
use Rattle.cv_event.specs.declared.entry.Act.TheVariants as act
use Rattle.cv_event.specs.declared.entry.How.TheVariants as how
use Rattle.cv_event.specs.Legality.{OfJob}
use Rattle.cv_store.specs.Stores.{project_of}
use Rattle.cv_tables.specs.Tabs.{Tab}
use Rattle.cv_desk.specs.Desks.{History, state, Notes}
use Rattle.cv_desk.proofs.KeepingLemmas.{room_for, ended_noted}
use Rattle.cv_desk.proofs.desk.Desk.note_fail.Goals as goal

pub push-requires : goal.push-requires
push-requires c =
    let h : History = record {
      opening = record {
        project = project_of c.self.inside.opened.value;
        canvases = map (λ (tab : Tab). tab.spec) c.self.inside.blank.value;
      };
      journal = c.self.inside.journal.entries;
      spare = c.self.inside.journal.spare;
      tables = record { store = c.self.inside.store; tabs = c.self.inside.canvases; rows = c.self.inside.jobs };
    } in
    let live = subst (λ n. OfJob (state n) c.args.job (λ j. j.ended ≡ None)) (sym c.self.view_is) c.requires in
    room_for h c.args.job c.self.invariant live

pub invariant_of-self : goal.invariant_of-self
invariant_of-self c =
    let h : History = record {
      opening = record {
        project = project_of c.self.inside.opened.value;
        canvases = map (λ (tab : Tab). tab.spec) c.self.inside.blank.value;
      };
      journal = c.self.inside.journal.entries;
      spare = c.self.inside.journal.spare;
      tables = record { store = c.self.inside.store; tabs = c.self.inside.canvases; rows = c.self.inside.jobs };
    } in
    let live = subst (λ n. OfJob (state n) c.args.job (λ j. j.ended ≡ None)) (sym c.self.view_is) c.requires in
    (ended_noted h how.NoMemory (act.Fail c.args.job) c.args.who c.args.job c.push.new.self.spare c.end.new.self c.push.new.self.entries
    c.self.invariant live c.end.ensures c.push.ensures.entries c.push.ensures.spare live refl refl refl).0

pub returns : goal.returns
returns c =
    let h : History = record {
      opening = record {
        project = project_of c.self.inside.opened.value;
        canvases = map (λ (tab : Tab). tab.spec) c.self.inside.blank.value;
      };
      journal = c.self.inside.journal.entries;
      spare = c.self.inside.journal.spare;
      tables = record { store = c.self.inside.store; tabs = c.self.inside.canvases; rows = c.self.inside.jobs };
    } in
    let live = subst (λ n. OfJob (state n) c.args.job (λ j. j.ended ≡ None)) (sym c.self.view_is) c.requires in
    let new : History = record {
      opening = h.opening;
      journal = c.push.new.self.entries;
      spare = c.push.new.self.spare;
      tables = record h.tables { rows = c.end.new.self };
    } in
    subst (λ n. Notes n new c.args.who (act.Fail c.args.job)) c.self.view_is
    (ended_noted h how.NoMemory (act.Fail c.args.job) c.args.who c.args.job c.push.new.self.spare c.end.new.self c.push.new.self.entries
    c.self.invariant live c.end.ensures c.push.ensures.entries c.push.ensures.spare live refl refl refl).1
