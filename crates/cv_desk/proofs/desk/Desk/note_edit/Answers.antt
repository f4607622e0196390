use Rattle.std.proofs.Common.{◌≡◌, ◌∙◌, sym, ap, subst, map, ◌+◌, ◌≤◌, None}
use Rattle.cv_model.specs.Edits.{verdict}
use Rattle.cv_event.specs.declared.entry.Act.TheVariants as act
use Rattle.cv_store.specs.Answers.{IsEdited}
use Rattle.cv_store.specs.Stores.{project_of}
use Rattle.cv_tables.specs.Rows.{owed, row_edited}
use Rattle.cv_tables.specs.Tabs.{Tab, Tables, tab_edited}
use Rattle.cv_desk.specs.Desks.{History, state, Notes}
use Rattle.cv_desk.proofs.EditedLemmas.{edit_noted}
use Rattle.cv_desk.proofs.desk.Desk.note_edit.Goals as goal

pub invariant_of-self : goal.invariant_of-self
invariant_of-self c =
    let h : History = record {
      opening = record {
        project = project_of c.self.inside.opened.value;
        canvases = map (λ (tab : Tab). tab.spec) c.self.inside.blank.value;
      };
      journal = c.self.inside.journal.entries;
      spare = c.self.inside.journal.spare;
      tables = record { store = c.self.inside.store; tabs = c.self.inside.canvases; rows = c.self.inside.jobs };
    } in
    let e = c.args.edit in
    let u : Tables = record { store = c.apply.new.self; tabs = c.touch.new.self; rows = c.touch-in-Ok.new.self } in
    let room = subst (λ n. owed n.tables.rows + 1 ≤ n.spare) (sym c.self.view_is) c.requires in
    let edited : IsEdited c.self.inside.store e c.apply.new.self =
    subst (λ d. IsEdited c.self.inside.store d c.apply.new.self) c.value.ensures c.in-Ok.ensures.ok in
    let in_order : verdict (state h).project (state h).accepted e ≡ None =
    ap (verdict (state h).project (state h).accepted) (sym c.value.ensures) ∙ c.in-Ok.ensures.answer.0 in
    let tabs : u.tabs ≡ map (tab_edited e) h.tables.tabs =
    c.touch.ensures ∙ ap (λ d. map (tab_edited d) h.tables.tabs) c.value-in-Ok.ensures in
    let rows : u.rows ≡ map (row_edited e) h.tables.rows =
    c.touch-in-Ok.ensures ∙ ap (λ d. map (row_edited d) h.tables.rows) c.value-in-Ok-2.ensures in
    let both = edit_noted h c.args.who c.push.new.self.spare e u c.push.new.self.entries c.self.invariant edited in_order tabs rows
    c.push.ensures.entries c.push.ensures.spare room in
    both.0

pub returns-in-Ok-clause-entry : goal.returns-in-Ok-clause-entry
returns-in-Ok-clause-entry c =
    let h : History = record {
      opening = record {
        project = project_of c.self.inside.opened.value;
        canvases = map (λ (tab : Tab). tab.spec) c.self.inside.blank.value;
      };
      journal = c.self.inside.journal.entries;
      spare = c.self.inside.journal.spare;
      tables = record { store = c.self.inside.store; tabs = c.self.inside.canvases; rows = c.self.inside.jobs };
    } in
    let e = c.args.edit in
    let u : Tables = record { store = c.apply.new.self; tabs = c.touch.new.self; rows = c.touch-in-Ok.new.self } in
    let room = subst (λ n. owed n.tables.rows + 1 ≤ n.spare) (sym c.self.view_is) c.requires in
    let edited : IsEdited c.self.inside.store e c.apply.new.self =
    subst (λ d. IsEdited c.self.inside.store d c.apply.new.self) c.value.ensures c.in-Ok.ensures.ok in
    let in_order : verdict (state h).project (state h).accepted e ≡ None =
    ap (verdict (state h).project (state h).accepted) (sym c.value.ensures) ∙ c.in-Ok.ensures.answer.0 in
    let tabs : u.tabs ≡ map (tab_edited e) h.tables.tabs =
    c.touch.ensures ∙ ap (λ d. map (tab_edited d) h.tables.tabs) c.value-in-Ok.ensures in
    let rows : u.rows ≡ map (row_edited e) h.tables.rows =
    c.touch-in-Ok.ensures ∙ ap (λ d. map (row_edited d) h.tables.rows) c.value-in-Ok-2.ensures in
    let both = edit_noted h c.args.who c.push.new.self.spare e u c.push.new.self.entries c.self.invariant edited in_order tabs rows
    c.push.ensures.entries c.push.ensures.spare room in
    let new : History = record {
      opening = h.opening;
      journal = c.push.new.self.entries;
      spare = c.push.new.self.spare;
      tables = u;
    } in
    subst (λ n. Notes n new c.args.who (act.Edit e None)) c.self.view_is both.1
