use Rattle.std.proofs.Common.{◌≡◌, ◌∙◌, ◌+◌, ◌≤◌, sym, subst, ap, refl, map, List, Some, None, slice_get, true, false}
use Rattle.std.specs.Option.{option_copied, option_map_or}
use Rattle.cv_event.specs.declared.entry.Act.TheVariants as act
use Rattle.cv_event.specs.declared.slot.Task.TheVariants.{Look}
use Rattle.cv_event.specs.Legality.{task, shows, hits}
use Rattle.cv_event.specs.States.{Canvas}
use Rattle.cv_event.proofs.SlotLemmas.{some_none}
use Rattle.cv_layer.specs.Stamps.{stamp_list}
use Rattle.cv_model.specs.Paintings.{Input, Painting}
use Rattle.cv_store.specs.Stores.{project_of}
use Rattle.cv_tables.specs.Rows.{row_in, input_of, owed, IsPaintingOf}
use Rattle.cv_tables.specs.Tabs.{Tab, TabServes}
use Rattle.cv_desk.specs.Desks.{History, state, Notes}
use Rattle.cv_desk.proofs.TaskLemmas.{due_row, due_slot, due_open, slot_input, input_read, has_slot, looked_up}
use Rattle.cv_desk.proofs.TaskLemmas.{touched_misses, unshown_misses, absent_misses, look_hits, look_painting, hit_noted}
use Rattle.cv_desk.proofs.desk.Desk.note_hit.Goals.{then-at-via-then-at, then-at-via-else-at+then-not-shows}
use Rattle.cv_desk.proofs.desk.Desk.note_hit.Goals as goal

pub unreachable-requires : goal.unreachable-requires
unreachable-requires c =
    let h : History = record {
      opening = record {
        project = project_of c.self.inside.opened.value;
        canvases = map (λ (tab : Tab). tab.spec) c.self.inside.blank.value;
      };
      journal = c.self.inside.journal.entries;
      spare = c.self.inside.journal.spare;
      tables = record { store = c.self.inside.store; tabs = c.self.inside.canvases; rows = c.self.inside.jobs };
    } in
    let due = subst (λ n. task (state n) ≡ Some (Look c.args.job c.args.slot)) (sym c.self.view_is) c.requires.due in
    due_row h c.args.job c.args.slot due (sym c.get.ensures ∙ ap option_copied c.in_default.is)

pub unreachable-requires-in_default-slot : goal.unreachable-requires-in_default-slot
unreachable-requires-in_default-slot c =
    let h : History = record {
      opening = record {
        project = project_of c.self.inside.opened.value;
        canvases = map (λ (tab : Tab). tab.spec) c.self.inside.blank.value;
      };
      journal = c.self.inside.journal.entries;
      spare = c.self.inside.journal.spare;
      tables = record { store = c.self.inside.store; tabs = c.self.inside.canvases; rows = c.self.inside.jobs };
    } in
    let due = subst (λ n. task (state n) ≡ Some (Look c.args.job c.args.slot)) (sym c.self.view_is) c.requires.due in
    let r = c.in-Some.row.now in
    let there : row_in h.tables.rows c.args.job ≡ Some r = sym c.get.ensures ∙ ap option_copied c.in-Some.is in
    due_slot h c.args.job c.args.slot r due there (sym c.slot.ensures ∙ c.in_default-slot.is)

pub unreachable-requires-in_default-input : goal.unreachable-requires-in_default-input
unreachable-requires-in_default-input c =
    let h : History = record {
      opening = record {
        project = project_of c.self.inside.opened.value;
        canvases = map (λ (tab : Tab). tab.spec) c.self.inside.blank.value;
      };
      journal = c.self.inside.journal.entries;
      spare = c.self.inside.journal.spare;
      tables = record { store = c.self.inside.store; tabs = c.self.inside.canvases; rows = c.self.inside.jobs };
    } in
    let due = subst (λ n. task (state n) ≡ Some (Look c.args.job c.args.slot)) (sym c.self.view_is) c.requires.due in
    let r = c.in-Some.row.now in
    let there : row_in h.tables.rows c.args.job ≡ Some r = sym c.get.ensures ∙ ap option_copied c.in-Some.is in
    let x = c.in-Some-slot.at in
    let is : slice_get r.slots c.args.slot ≡ Some x = sym c.slot.ensures ∙ c.in-Some-slot.is in
    let facts = due_open h c.args.job c.args.slot r x due there is in
    let read : option_copied c.input.result ≡ input_of r.store x =
    input_read r x c.args.slot (option_copied c.input.result) is (c.input.ensures facts.0) in
    let made = slot_input h c.args.job c.args.slot r x c.self.invariant there is in
    some_none made.0 (sym made.1 ∙ sym read ∙ ap option_copied c.in_default-input.is)

pub returns-then-at-clause-ok : goal.returns-then-at-clause-ok
returns-then-at-clause-ok c =
    let h : History = record {
      opening = record {
        project = project_of c.self.inside.opened.value;
        canvases = map (λ (tab : Tab). tab.spec) c.self.inside.blank.value;
      };
      journal = c.self.inside.journal.entries;
      spare = c.self.inside.journal.spare;
      tables = record { store = c.self.inside.store; tabs = c.self.inside.canvases; rows = c.self.inside.jobs };
    } in
    let due = subst (λ n. task (state n) ≡ Some (Look c.args.job c.args.slot)) (sym c.self.view_is) c.requires.due in
    let r = c.in-Some.row.now in
    let there : row_in h.tables.rows c.args.job ≡ Some r = sym c.get.ensures ∙ ap option_copied c.in-Some.is in
    let x = c.in-Some-slot.at in
    let is : slice_get r.slots c.args.slot ≡ Some x = sym c.slot.ensures ∙ c.in-Some-slot.is in
    let facts = due_open h c.args.job c.args.slot r x due there is in
    let read : option_copied c.input.result ≡ input_of r.store x =
    input_read r x c.args.slot (option_copied c.input.result) is (c.input.ensures facts.0) in
    let i = c.in-Some-input.input.now in
    let input : input_of r.store x ≡ Some i = sym read ∙ ap option_copied c.in-Some-input.is in
    let missed : hits (state h) c.args.job c.args.slot ≡ false =
    elim c.then-at.branch [
      | then-at-via-then-at w ↦ touched_misses h c.args.job c.args.slot r x i c.self.invariant there is facts.0 input w.if-at.true
      | then-at-via-else-at+then-not-shows w ↦
          unshown_misses h c.args.job c.args.slot r x i c.self.invariant there is facts.0 input
          (sym (subst (λ n. w.shows.result ≡ option_map_or (λ (k : Canvas). shows k c.view-view.result) (slice_get (state n).canvases c.canvas-canvas.result) false) (sym c.self.view_is) w.shows.ensures
          ∙ (λ j. option_map_or (λ (k : Canvas). shows k (c.view-view.ensures j)) (slice_get (state h).canvases (c.canvas-canvas.ensures j)) false))
          ∙ w.if-not-shows.true)
    ] in
    (refl, subst (λ n. hits (state n) c.args.job c.args.slot ≡ false) c.self.view_is missed)

pub ready-requires : goal.ready-requires
ready-requires c =
    let h : History = record {
      opening = record {
        project = project_of c.self.inside.opened.value;
        canvases = map (λ (tab : Tab). tab.spec) c.self.inside.blank.value;
      };
      journal = c.self.inside.journal.entries;
      spare = c.self.inside.journal.spare;
      tables = record { store = c.self.inside.store; tabs = c.self.inside.canvases; rows = c.self.inside.jobs };
    } in
    let due = subst (λ n. task (state n) ≡ Some (Look c.args.job c.args.slot)) (sym c.self.view_is) c.requires.due in
    let r = c.in-Some.row.now in
    let there : row_in h.tables.rows c.args.job ≡ Some r = sym c.get.ensures ∙ ap option_copied c.in-Some.is in
    let x = c.in-Some-slot.at in
    let is : slice_get r.slots c.args.slot ≡ Some x = sym c.slot.ensures ∙ c.in-Some-slot.is in
    let facts = due_open h c.args.job c.args.slot r x due there is in
    let p = c.in-Some-2.painted in
    let stamps = stamp_list c.stamps-stamps.result in
    let looked = looked_up h r x c.canvas-canvas.result stamps c.view-view.result c.look.new.self c.in_ok-painted.field-0 (Some p)
    c.canvas-canvas.ensures c.view-view.ensures c.in-Some-2.is c.in_ok-painted.ensures.ok in
    has_slot h.tables.rows c.args.job c.args.slot r x (IsPaintingOf p) there is
    (facts.0, look_painting h c.args.job c.args.slot r x p stamps c.self.invariant there is facts.0 c.if-at.false looked.0)

pub invariant_of-self-in-Some-2 : goal.invariant_of-self-in-Some-2
invariant_of-self-in-Some-2 c =
    let h : History = record {
      opening = record {
        project = project_of c.self.inside.opened.value;
        canvases = map (λ (tab : Tab). tab.spec) c.self.inside.blank.value;
      };
      journal = c.self.inside.journal.entries;
      spare = c.self.inside.journal.spare;
      tables = record { store = c.self.inside.store; tabs = c.self.inside.canvases; rows = c.self.inside.jobs };
    } in
    let due = subst (λ n. task (state n) ≡ Some (Look c.args.job c.args.slot)) (sym c.self.view_is) c.requires.due in
    let r = c.in-Some.row.now in
    let there : row_in h.tables.rows c.args.job ≡ Some r = sym c.get.ensures ∙ ap option_copied c.in-Some.is in
    let x = c.in-Some-slot.at in
    let is : slice_get r.slots c.args.slot ≡ Some x = sym c.slot.ensures ∙ c.in-Some-slot.is in
    let facts = due_open h c.args.job c.args.slot r x due there is in
    let p = c.in-Some-2.painted in
    let stamps = stamp_list c.stamps-stamps.result in
    let looked = looked_up h r x c.canvas-canvas.result stamps c.view-view.result c.look.new.self c.in_ok-painted.field-0 (Some p)
    c.canvas-canvas.ensures c.view-view.ensures c.in-Some-2.is c.in_ok-painted.ensures.ok in
    let shown : c.shows.result ≡ option_map_or (λ (k : Canvas). shows k r.view) (slice_get (state h).canvases r.canvas) false =
    subst (λ n. c.shows.result ≡ option_map_or (λ (k : Canvas). shows k c.view-view.result) (slice_get (state n).canvases c.canvas-canvas.result) false) (sym c.self.view_is) c.shows.ensures
    ∙ (λ j. option_map_or (λ (k : Canvas). shows k (c.view-view.ensures j)) (slice_get (state h).canvases (c.canvas-canvas.ensures j)) false) in
    let room = subst (λ n. owed n.tables.rows + 1 ≤ n.spare) (sym c.self.view_is) c.requires.room in
    let hit = look_hits h c.args.job c.args.slot r x p stamps there is (sym shown ∙ c.if-not-shows.false)
    c.if-at.false looked.0 in
    let both = hit_noted h c.args.who c.args.job c.args.slot c.push.new.self.spare c.look.new.self c.ready.new.self c.push.new.self.entries
    r x c.self.invariant due there is facts.1 hit looked.1 c.ready.ensures c.push.ensures.entries c.push.ensures.spare room in
    both.0

pub returns-in-Some-2-clause-ok : goal.returns-in-Some-2-clause-ok
returns-in-Some-2-clause-ok c =
    let h : History = record {
      opening = record {
        project = project_of c.self.inside.opened.value;
        canvases = map (λ (tab : Tab). tab.spec) c.self.inside.blank.value;
      };
      journal = c.self.inside.journal.entries;
      spare = c.self.inside.journal.spare;
      tables = record { store = c.self.inside.store; tabs = c.self.inside.canvases; rows = c.self.inside.jobs };
    } in
    let due = subst (λ n. task (state n) ≡ Some (Look c.args.job c.args.slot)) (sym c.self.view_is) c.requires.due in
    let r = c.in-Some.row.now in
    let there : row_in h.tables.rows c.args.job ≡ Some r = sym c.get.ensures ∙ ap option_copied c.in-Some.is in
    let x = c.in-Some-slot.at in
    let is : slice_get r.slots c.args.slot ≡ Some x = sym c.slot.ensures ∙ c.in-Some-slot.is in
    let facts = due_open h c.args.job c.args.slot r x due there is in
    let p = c.in-Some-2.painted in
    let stamps = stamp_list c.stamps-stamps.result in
    let looked = looked_up h r x c.canvas-canvas.result stamps c.view-view.result c.look.new.self c.in_ok-painted.field-0 (Some p)
    c.canvas-canvas.ensures c.view-view.ensures c.in-Some-2.is c.in_ok-painted.ensures.ok in
    let shown : c.shows.result ≡ option_map_or (λ (k : Canvas). shows k r.view) (slice_get (state h).canvases r.canvas) false =
    subst (λ n. c.shows.result ≡ option_map_or (λ (k : Canvas). shows k c.view-view.result) (slice_get (state n).canvases c.canvas-canvas.result) false) (sym c.self.view_is) c.shows.ensures
    ∙ (λ j. option_map_or (λ (k : Canvas). shows k (c.view-view.ensures j)) (slice_get (state h).canvases (c.canvas-canvas.ensures j)) false) in
    let room = subst (λ n. owed n.tables.rows + 1 ≤ n.spare) (sym c.self.view_is) c.requires.room in
    let hit = look_hits h c.args.job c.args.slot r x p stamps there is (sym shown ∙ c.if-not-shows.false)
    c.if-at.false looked.0 in
    let both = hit_noted h c.args.who c.args.job c.args.slot c.push.new.self.spare c.look.new.self c.ready.new.self c.push.new.self.entries
    r x c.self.invariant due there is facts.1 hit looked.1 c.ready.ensures c.push.ensures.entries c.push.ensures.spare room in
    let new : History = record {
      opening = h.opening;
      journal = c.push.new.self.entries;
      spare = c.push.new.self.spare;
      tables = record h.tables { tabs = c.look.new.self; rows = c.ready.new.self };
    } in (
      subst (λ n. Notes n new c.args.who (act.Look c.args.job c.args.slot true)) c.self.view_is both.1,
      subst (λ n. hits (state n) c.args.job c.args.slot ≡ true) c.self.view_is hit,
    )

pub returns-in-None-clause-ok : goal.returns-in-None-clause-ok
returns-in-None-clause-ok c =
    let h : History = record {
      opening = record {
        project = project_of c.self.inside.opened.value;
        canvases = map (λ (tab : Tab). tab.spec) c.self.inside.blank.value;
      };
      journal = c.self.inside.journal.entries;
      spare = c.self.inside.journal.spare;
      tables = record { store = c.self.inside.store; tabs = c.self.inside.canvases; rows = c.self.inside.jobs };
    } in
    let due = subst (λ n. task (state n) ≡ Some (Look c.args.job c.args.slot)) (sym c.self.view_is) c.requires.due in
    let r = c.in-Some.row.now in
    let there : row_in h.tables.rows c.args.job ≡ Some r = sym c.get.ensures ∙ ap option_copied c.in-Some.is in
    let x = c.in-Some-slot.at in
    let is : slice_get r.slots c.args.slot ≡ Some x = sym c.slot.ensures ∙ c.in-Some-slot.is in
    let facts = due_open h c.args.job c.args.slot r x due there is in
    let read : option_copied c.input.result ≡ input_of r.store x =
    input_read r x c.args.slot (option_copied c.input.result) is (c.input.ensures facts.0) in
    let i = c.in-Some-input.input.now in
    let input : input_of r.store x ≡ Some i = sym read ∙ ap option_copied c.in-Some-input.is in
    let looked = looked_up h r x c.canvas-canvas.result (stamp_list c.stamps-stamps.result) c.view-view.result c.look.new.self
    c.in_ok-painted.field-0 None c.canvas-canvas.ensures c.view-view.ensures c.in-None.is c.in_ok-painted.ensures.ok in
    let stamps : stamp_list c.stamps-stamps.result ≡ i.stamps = c.stamps-stamps.ensures ∙ ap (λ (k : Input). k.stamps) c.value.ensures in
    let none = subst (λ s. (p : Painting) → TabServes h.tables.tabs r.canvas x.layer s r.view p → ⊥) stamps looked.0 in
    let missed = absent_misses h c.args.job c.args.slot r x i c.self.invariant there is facts.0 input none in (
      ap (λ (tabs : List Tab). record h { tables = (record h.tables { tabs = tabs }) }) looked.1 ∙ c.self.view_is,
      subst (λ n. hits (state n) c.args.job c.args.slot ≡ false) c.self.view_is missed,
    )
