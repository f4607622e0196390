use Rattle.std.proofs.Common.{◌≡◌, ◌∙◌, ◌+◌, ◌≤◌, sym, subst, ap, refl, map, Some, false}
use Rattle.std.specs.Option.{option_copied}
use Rattle.cv_event.specs.declared.entry.Act.TheVariants as act
use Rattle.cv_event.specs.declared.slot.Slot.{Slot}
use Rattle.cv_event.specs.declared.slot.Task.TheVariants.{Look}
use Rattle.cv_event.specs.Legality.{is_ready, task, hits}
use Rattle.cv_event.proofs.SlotLemmas.{some_none}
use Rattle.cv_store.specs.Stores.{project_of}
use Rattle.cv_tables.specs.Rows.{Row, HasSlot, row_in, input_of, owed}
use Rattle.cv_tables.specs.Tabs.{Tab}
use Rattle.cv_desk.specs.Desks.{History, state, Notes}
use Rattle.cv_desk.specs.Answers.{IsPiece}
use Rattle.cv_desk.proofs.TaskLemmas.{due_row, due_find, slot_input, input_read, has_slot, open_unready, miss_noted}
use Rattle.cv_desk.proofs.desk.Desk.note_miss.Goals as goal

pub unreachable-requires : goal.unreachable-requires
unreachable-requires c =
    let h : History = record {
      opening = record {
        project = project_of c.self.inside.opened.value;
        canvases = map (λ (tab : Tab). tab.spec) c.self.inside.blank.value;
      };
      journal = c.self.inside.journal.entries;
      spare = c.self.inside.journal.spare;
      tables = record { store = c.self.inside.store; tabs = c.self.inside.canvases; rows = c.self.inside.jobs };
    } in
    let due = subst (λ n. task (state n) ≡ Some (Look c.args.job c.args.slot)) (sym c.self.view_is) c.requires.due in
    due_row h c.args.job c.args.slot due (sym c.get.ensures ∙ ap option_copied c.in_default.is)

pub unreachable-requires-in_default-input : goal.unreachable-requires-in_default-input
unreachable-requires-in_default-input c =
    let h : History = record {
      opening = record {
        project = project_of c.self.inside.opened.value;
        canvases = map (λ (tab : Tab). tab.spec) c.self.inside.blank.value;
      };
      journal = c.self.inside.journal.entries;
      spare = c.self.inside.journal.spare;
      tables = record { store = c.self.inside.store; tabs = c.self.inside.canvases; rows = c.self.inside.jobs };
    } in
    let r = c.in-Some.row.now in
    let there : row_in h.tables.rows c.args.job ≡ Some r = sym c.get.ensures ∙ ap option_copied c.in-Some.is in
    let due = subst (λ n. task (state n) ≡ Some (Look c.args.job c.args.slot)) (sym c.self.view_is) c.requires.due in
    let q = due_find h c.args.job c.args.slot r due there in
    let read : option_copied c.input.result ≡ input_of r.store q.0 =
    input_read r q.0 c.args.slot (option_copied c.input.result) q.1 (c.input.ensures q.2) in
    let made = slot_input h c.args.job c.args.slot r q.0 c.self.invariant there q.1 in
    some_none made.0 (sym made.1 ∙ sym read ∙ ap option_copied c.in_default-input.is)

pub miss-requires : goal.miss-requires
miss-requires c =
    let h : History = record {
      opening = record {
        project = project_of c.self.inside.opened.value;
        canvases = map (λ (tab : Tab). tab.spec) c.self.inside.blank.value;
      };
      journal = c.self.inside.journal.entries;
      spare = c.self.inside.journal.spare;
      tables = record { store = c.self.inside.store; tabs = c.self.inside.canvases; rows = c.self.inside.jobs };
    } in
    let r = c.in-Some.row.now in
    let there : row_in h.tables.rows c.args.job ≡ Some r = sym c.get.ensures ∙ ap option_copied c.in-Some.is in
    let due = subst (λ n. task (state n) ≡ Some (Look c.args.job c.args.slot)) (sym c.self.view_is) c.requires.due in
    let q = due_find h c.args.job c.args.slot r due there in
    has_slot h.tables.rows c.args.job c.args.slot r q.0 (λ (row : Row) (x : Slot). is_ready x.standing ≡ false) there q.1
    (open_unready q.0 q.3)

pub invariant_of-self : goal.invariant_of-self
invariant_of-self c =
    let h : History = record {
      opening = record {
        project = project_of c.self.inside.opened.value;
        canvases = map (λ (tab : Tab). tab.spec) c.self.inside.blank.value;
      };
      journal = c.self.inside.journal.entries;
      spare = c.self.inside.journal.spare;
      tables = record { store = c.self.inside.store; tabs = c.self.inside.canvases; rows = c.self.inside.jobs };
    } in
    let r = c.in-Some.row.now in
    let there : row_in h.tables.rows c.args.job ≡ Some r = sym c.get.ensures ∙ ap option_copied c.in-Some.is in
    let due = subst (λ n. task (state n) ≡ Some (Look c.args.job c.args.slot)) (sym c.self.view_is) c.requires.due in
    let q = due_find h c.args.job c.args.slot r due there in
    let room = subst (λ n. owed n.tables.rows + 2 ≤ n.spare) (sym c.self.view_is) c.requires.room in
    let missed = subst (λ n. hits (state n) c.args.job c.args.slot ≡ false) (sym c.self.view_is) c.requires.missed in
    let both = miss_noted h c.args.who c.args.job c.args.slot c.push.new.self.spare c.miss.new.self c.push.new.self.entries r q.0
    c.self.invariant due there q.1 q.3 missed c.miss.ensures c.push.ensures.entries c.push.ensures.spare room in
    both.0

pub returns-clause-ok : goal.returns-clause-ok
returns-clause-ok c =
    let h : History = record {
      opening = record {
        project = project_of c.self.inside.opened.value;
        canvases = map (λ (tab : Tab). tab.spec) c.self.inside.blank.value;
      };
      journal = c.self.inside.journal.entries;
      spare = c.self.inside.journal.spare;
      tables = record { store = c.self.inside.store; tabs = c.self.inside.canvases; rows = c.self.inside.jobs };
    } in
    let r = c.in-Some.row.now in
    let there : row_in h.tables.rows c.args.job ≡ Some r = sym c.get.ensures ∙ ap option_copied c.in-Some.is in
    let due = subst (λ n. task (state n) ≡ Some (Look c.args.job c.args.slot)) (sym c.self.view_is) c.requires.due in
    let q = due_find h c.args.job c.args.slot r due there in
    let room = subst (λ n. owed n.tables.rows + 2 ≤ n.spare) (sym c.self.view_is) c.requires.room in
    let missed = subst (λ n. hits (state n) c.args.job c.args.slot ≡ false) (sym c.self.view_is) c.requires.missed in
    let both = miss_noted h c.args.who c.args.job c.args.slot c.push.new.self.spare c.miss.new.self c.push.new.self.entries r q.0
    c.self.invariant due there q.1 q.3 missed c.miss.ensures c.push.ensures.entries c.push.ensures.spare room in
    let read : option_copied c.input.result ≡ input_of r.store q.0 =
    input_read r q.0 c.args.slot (option_copied c.input.result) q.1 (c.input.ensures q.2) in
    let new : History = record {
      opening = h.opening;
      journal = c.push.new.self.entries;
      spare = c.push.new.self.spare;
      tables = record h.tables { rows = c.miss.new.self };
    } in
    let given : input_of r.store q.0 ≡ Some c.in_ok-clone.field-0 =
    sym read ∙ ap option_copied c.in-Some-input.is ∙ ap Some (sym c.in_ok-clone.ensures.cases) in (
      refl,
      refl,
      subst (λ n. Notes n new c.args.who (act.Look c.args.job c.args.slot false)) c.self.view_is both.1,
      subst (λ n. HasSlot n.tables.rows c.args.job c.args.slot (IsPiece c.in_ok-clone.field-0 c.view.result)) c.self.view_is
          (has_slot h.tables.rows c.args.job c.args.slot r q.0 (IsPiece c.in_ok-clone.field-0 c.view.result) there q.1
          (given, c.view.ensures)),
    )
