use Rattle.std.proofs.Common.{◌≡◌, ◌∙◌, ◌+◌, ◌≤◌, sym, subst, ap, map, Option, Some, IsSomeAnd}
use Rattle.std.specs.Option.{option_copied}
use Rattle.cv_event.specs.declared.entry.Act.TheVariants as act
use Rattle.cv_event.specs.declared.slot.Task.TheVariants.{Compose}
use Rattle.cv_event.specs.Legality.{task}
use Rattle.cv_store.specs.Stores.{project_of}
use Rattle.cv_tables.specs.Rows.{Row, row_in, owed, whole_of}
use Rattle.cv_tables.specs.Tabs.{Tab}
use Rattle.cv_desk.specs.Desks.{History, state, Notes}
use Rattle.cv_desk.proofs.TaskLemmas.{compose_noted, composed_row, composed_ready, ready_whole}
use Rattle.cv_desk.proofs.desk.Desk.note_compose.Goals as goal

pub unreachable-requires : goal.unreachable-requires
unreachable-requires c =
    let h : History = record {
      opening = record {
        project = project_of c.self.inside.opened.value;
        canvases = map (λ (tab : Tab). tab.spec) c.self.inside.blank.value;
      };
      journal = c.self.inside.journal.entries;
      spare = c.self.inside.journal.spare;
      tables = record { store = c.self.inside.store; tabs = c.self.inside.canvases; rows = c.self.inside.jobs };
    } in
    let due = subst (λ n. task (state n) ≡ Some (Compose c.args.job)) (sym c.self.view_is) c.requires.due in
    composed_row h c.args.job due (sym c.get.ensures ∙ ap option_copied c.in_default.is)

pub composing-requires : goal.composing-requires
composing-requires c =
    let h : History = record {
      opening = record {
        project = project_of c.self.inside.opened.value;
        canvases = map (λ (tab : Tab). tab.spec) c.self.inside.blank.value;
      };
      journal = c.self.inside.journal.entries;
      spare = c.self.inside.journal.spare;
      tables = record { store = c.self.inside.store; tabs = c.self.inside.canvases; rows = c.self.inside.jobs };
    } in
    let r = c.in-Some.row.now in
    let there : row_in h.tables.rows c.args.job ≡ Some r = sym c.get.ensures ∙ ap option_copied c.in-Some.is in
    let due = subst (λ n. task (state n) ≡ Some (Compose c.args.job)) (sym c.self.view_is) c.requires.due in
    (composed_ready h c.args.job r due there).0

pub invariant_of-self : goal.invariant_of-self
invariant_of-self c =
    let h : History = record {
      opening = record {
        project = project_of c.self.inside.opened.value;
        canvases = map (λ (tab : Tab). tab.spec) c.self.inside.blank.value;
      };
      journal = c.self.inside.journal.entries;
      spare = c.self.inside.journal.spare;
      tables = record { store = c.self.inside.store; tabs = c.self.inside.canvases; rows = c.self.inside.jobs };
    } in
    let r = c.in-Some.row.now in
    let there : row_in h.tables.rows c.args.job ≡ Some r = sym c.get.ensures ∙ ap option_copied c.in-Some.is in
    let due = subst (λ n. task (state n) ≡ Some (Compose c.args.job)) (sym c.self.view_is) c.requires.due in
    let room = subst (λ n. owed n.tables.rows + 1 ≤ n.spare) (sym c.self.view_is) c.requires.room in
    let both = compose_noted h c.args.who c.args.job c.push.new.self.spare c.compose.new.self c.push.new.self.entries r c.self.invariant
    due there c.compose.ensures c.push.ensures.entries c.push.ensures.spare room in
    both.0

pub returns-clause-ok : goal.returns-clause-ok
returns-clause-ok c =
    let h : History = record {
      opening = record {
        project = project_of c.self.inside.opened.value;
        canvases = map (λ (tab : Tab). tab.spec) c.self.inside.blank.value;
      };
      journal = c.self.inside.journal.entries;
      spare = c.self.inside.journal.spare;
      tables = record { store = c.self.inside.store; tabs = c.self.inside.canvases; rows = c.self.inside.jobs };
    } in
    let r = c.in-Some.row.now in
    let there : row_in h.tables.rows c.args.job ≡ Some r = sym c.get.ensures ∙ ap option_copied c.in-Some.is in
    let due = subst (λ n. task (state n) ≡ Some (Compose c.args.job)) (sym c.self.view_is) c.requires.due in
    let room = subst (λ n. owed n.tables.rows + 1 ≤ n.spare) (sym c.self.view_is) c.requires.room in
    let both = compose_noted h c.args.who c.args.job c.push.new.self.spare c.compose.new.self c.push.new.self.entries r c.self.invariant
    due there c.compose.ensures c.push.ensures.entries c.push.ensures.spare room in
    let new : History = record {
      opening = h.opening;
      journal = c.push.new.self.entries;
      spare = c.push.new.self.spare;
      tables = record h.tables { rows = c.compose.new.self };
    } in
    let whole : c.in_ok-input.input ≡ whole_of r = c.in_ok-input.ensures ∙ ready_whole r (composed_ready h c.args.job r due there).1 in (
      subst (λ n. Notes n new c.args.who (act.Compose c.args.job)) c.self.view_is both.1,
      subst (λ n. IsSomeAnd (row_in n.tables.rows c.args.job) (λ row. c.in_ok-input.input ≡ whole_of row)) c.self.view_is
          (subst (λ (o : Option Row). IsSomeAnd o (λ row. c.in_ok-input.input ≡ whole_of row)) (sym there) whole),
    )
