use Rattle.std.proofs.Common.{◌≡◌, ◌∙◌, sym, subst, ap, refl, map, Some}
use Rattle.std.specs.Option.{option_copied}
use Rattle.cv_event.specs.declared.entry.Act.TheVariants as act
use Rattle.cv_event.specs.declared.entry.Fate.TheVariants.{Stored}
use Rattle.cv_event.specs.declared.slot.Slot.{Slot}
use Rattle.cv_event.specs.declared.slot.Standing.TheVariants.{Missed}
use Rattle.cv_event.specs.Legality.{fate_of}
use Rattle.cv_event.specs.States.{change_at}
use Rattle.cv_event.proofs.SlotLemmas.{same_some}
use Rattle.cv_store.specs.Stores.{project_of}
use Rattle.cv_tables.specs.Rows.{Row, HasSlot, IsPaintingOf, job_of, row_in}
use Rattle.cv_tables.specs.Tabs.{Tab, tab_stored}
use Rattle.cv_desk.specs.Desks.{History, state, Notes}
use Rattle.cv_desk.proofs.KeepingLemmas.{slot_of, room_for_slot}
use Rattle.cv_desk.proofs.TaskLemmas.{stored_noted}
use Rattle.cv_desk.proofs.desk.Desk.note_stored.Goals as goal

pub push-requires : goal.push-requires
push-requires c =
    let h : History = record {
      opening = record {
        project = project_of c.self.inside.opened.value;
        canvases = map (λ (tab : Tab). tab.spec) c.self.inside.blank.value;
      };
      journal = c.self.inside.journal.entries;
      spare = c.self.inside.journal.spare;
      tables = record { store = c.self.inside.store; tabs = c.self.inside.canvases; rows = c.self.inside.jobs };
    } in
    let q = slot_of h.tables.rows c.args.job c.args.slot (λ (row : Row) (x : Slot). (x.standing ≡ Missed c.args.who) × IsPaintingOf c.args.painted row x × (fate_of (state h) (job_of row) x ≡ Stored))
    (subst (λ n. HasSlot n.tables.rows c.args.job c.args.slot
    (λ (row : Row) (x : Slot). (x.standing ≡ Missed c.args.who) × IsPaintingOf c.args.painted row x × (fate_of (state n) (job_of row) x ≡ Stored)))
    (sym c.self.view_is) c.requires) in
    room_for_slot h.tables h.spare c.args.who c.args.job c.args.slot q.0 q.1 q.2 q.3 q.4.0 c.self.invariant.holds

pub invariant_of-self-2 : goal.invariant_of-self-2
invariant_of-self-2 c =
    let h : History = record {
      opening = record {
        project = project_of c.self.inside.opened.value;
        canvases = map (λ (tab : Tab). tab.spec) c.self.inside.blank.value;
      };
      journal = c.self.inside.journal.entries;
      spare = c.self.inside.journal.spare;
      tables = record { store = c.self.inside.store; tabs = c.self.inside.canvases; rows = c.self.inside.jobs };
    } in
    let r = c.in-Some.row.now in
    let there : row_in h.tables.rows c.args.job ≡ Some r = sym c.get.ensures ∙ ap option_copied c.in-Some.is in
    let q = slot_of h.tables.rows c.args.job c.args.slot (λ (row : Row) (x : Slot). (x.standing ≡ Missed c.args.who) × IsPaintingOf c.args.painted row x × (fate_of (state h) (job_of row) x ≡ Stored))
    (subst (λ n. HasSlot n.tables.rows c.args.job c.args.slot
    (λ (row : Row) (x : Slot). (x.standing ≡ Missed c.args.who) × IsPaintingOf c.args.painted row x × (fate_of (state n) (job_of row) x ≡ Stored)))
    (sym c.self.view_is) c.requires) in
    let same : r ≡ q.0 = same_some (row_in h.tables.rows c.args.job) there q.2 in
    let canvas : c.canvas-canvas.result ≡ q.0.canvas = c.canvas-canvas.ensures ∙ ap (λ (row : Row). row.canvas) same in
    let kept : c.in-Ok.kept ≡ c.args.painted = c.in-Ok.ensures.cases in
    let taken : c.store.new.self ≡ change_at q.0.canvas (tab_stored c.args.painted) h.tables.tabs =
    c.in-Ok-store.ensures.ok ∙ (λ i. change_at (canvas i) (tab_stored (kept i)) h.tables.tabs) in
    let both = stored_noted h c.args.who c.args.job c.args.slot c.push.new.self.spare c.args.painted c.store.new.self c.ready.new.self
    c.push.new.self.entries q.0 q.1 c.self.invariant q.2 q.3 q.4.0 q.4.1.1 q.4.2 taken c.ready.ensures c.push.ensures.entries
    c.push.ensures.spare in
    both.0

pub returns-clause-ok : goal.returns-clause-ok
returns-clause-ok c =
    let h : History = record {
      opening = record {
        project = project_of c.self.inside.opened.value;
        canvases = map (λ (tab : Tab). tab.spec) c.self.inside.blank.value;
      };
      journal = c.self.inside.journal.entries;
      spare = c.self.inside.journal.spare;
      tables = record { store = c.self.inside.store; tabs = c.self.inside.canvases; rows = c.self.inside.jobs };
    } in
    let r = c.in-Some.row.now in
    let there : row_in h.tables.rows c.args.job ≡ Some r = sym c.get.ensures ∙ ap option_copied c.in-Some.is in
    let q = slot_of h.tables.rows c.args.job c.args.slot (λ (row : Row) (x : Slot). (x.standing ≡ Missed c.args.who) × IsPaintingOf c.args.painted row x × (fate_of (state h) (job_of row) x ≡ Stored))
    (subst (λ n. HasSlot n.tables.rows c.args.job c.args.slot
    (λ (row : Row) (x : Slot). (x.standing ≡ Missed c.args.who) × IsPaintingOf c.args.painted row x × (fate_of (state n) (job_of row) x ≡ Stored)))
    (sym c.self.view_is) c.requires) in
    let same : r ≡ q.0 = same_some (row_in h.tables.rows c.args.job) there q.2 in
    let canvas : c.canvas-canvas.result ≡ q.0.canvas = c.canvas-canvas.ensures ∙ ap (λ (row : Row). row.canvas) same in
    let kept : c.in-Ok.kept ≡ c.args.painted = c.in-Ok.ensures.cases in
    let taken : c.store.new.self ≡ change_at q.0.canvas (tab_stored c.args.painted) h.tables.tabs =
    c.in-Ok-store.ensures.ok ∙ (λ i. change_at (canvas i) (tab_stored (kept i)) h.tables.tabs) in
    let both = stored_noted h c.args.who c.args.job c.args.slot c.push.new.self.spare c.args.painted c.store.new.self c.ready.new.self
    c.push.new.self.entries q.0 q.1 c.self.invariant q.2 q.3 q.4.0 q.4.1.1 q.4.2 taken c.ready.ensures c.push.ensures.entries
    c.push.ensures.spare in
    let new : History = record {
      opening = h.opening;
      journal = c.push.new.self.entries;
      spare = c.push.new.self.spare;
      tables = record h.tables { tabs = c.store.new.self; rows = c.ready.new.self };
    } in
    (refl, subst (λ n. Notes n new c.args.who (act.Deliver c.args.job c.args.slot Stored)) c.self.view_is both.1)
