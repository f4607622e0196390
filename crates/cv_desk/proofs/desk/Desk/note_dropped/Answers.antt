use Rattle.std.proofs.Common.{◌≡◌, sym, subst, ap, refl, map, is_some, true, if◌then◌else◌}
use Rattle.cv_event.specs.declared.entry.Act.TheVariants as act
use Rattle.cv_event.specs.declared.entry.Fate.TheVariants.{Stored, Kept, Dropped}
use Rattle.cv_event.specs.declared.slot.Standing.TheVariants.{Missed, Lost}
use Rattle.cv_event.specs.Legality.{on_canvas, is_taken}
use Rattle.cv_store.specs.Stores.{project_of}
use Rattle.cv_tables.specs.Rows.{HasSlot, job_of}
use Rattle.cv_tables.specs.Tabs.{Tab}
use Rattle.cv_desk.specs.Desks.{History, state, Notes}
use Rattle.cv_desk.proofs.KeepingLemmas.{slot_of, room_for_slot, delivered_noted}
use Rattle.cv_desk.proofs.desk.Desk.note_dropped.Goals as goal

pub push-requires : goal.push-requires
push-requires c =
    let h : History = record {
      opening = record {
        project = project_of c.self.inside.opened.value;
        canvases = map (λ (tab : Tab). tab.spec) c.self.inside.blank.value;
      };
      journal = c.self.inside.journal.entries;
      spare = c.self.inside.journal.spare;
      tables = record { store = c.self.inside.store; tabs = c.self.inside.canvases; rows = c.self.inside.jobs };
    } in
    let q = slot_of h.tables.rows c.args.job c.args.slot (λ row x. (x.standing ≡ Missed c.args.who) × (is_some row.ended ≡ true)) (subst (λ n. HasSlot n.tables.rows c.args.job c.args.slot
    (λ row x. (x.standing ≡ Missed c.args.who) × (is_some row.ended ≡ true))) (sym c.self.view_is) c.requires) in
    room_for_slot h.tables h.spare c.args.who c.args.job c.args.slot q.0 q.1 q.2 q.3 q.4.0 c.self.invariant.holds

pub invariant_of-self : goal.invariant_of-self
invariant_of-self c =
    let h : History = record {
      opening = record {
        project = project_of c.self.inside.opened.value;
        canvases = map (λ (tab : Tab). tab.spec) c.self.inside.blank.value;
      };
      journal = c.self.inside.journal.entries;
      spare = c.self.inside.journal.spare;
      tables = record { store = c.self.inside.store; tabs = c.self.inside.canvases; rows = c.self.inside.jobs };
    } in
    let q = slot_of h.tables.rows c.args.job c.args.slot (λ row x. (x.standing ≡ Missed c.args.who) × (is_some row.ended ≡ true)) (subst (λ n. HasSlot n.tables.rows c.args.job c.args.slot
    (λ row x. (x.standing ≡ Missed c.args.who) × (is_some row.ended ≡ true))) (sym c.self.view_is) c.requires) in
    let both = delivered_noted h Dropped c.args.who c.args.job c.args.slot c.push.new.self.spare Lost c.lose.new.self
    c.push.new.self.entries q.0 q.1 c.self.invariant q.2 q.3 q.4.0 (sym (ap (λ b. if b then Dropped else if on_canvas is_taken (state h) (job_of q.0) q.1 then Stored else Kept) q.4.1)) refl refl c.lose.ensures c.push.ensures.entries
    c.push.ensures.spare in
    both.0

pub returns : goal.returns
returns c =
    let h : History = record {
      opening = record {
        project = project_of c.self.inside.opened.value;
        canvases = map (λ (tab : Tab). tab.spec) c.self.inside.blank.value;
      };
      journal = c.self.inside.journal.entries;
      spare = c.self.inside.journal.spare;
      tables = record { store = c.self.inside.store; tabs = c.self.inside.canvases; rows = c.self.inside.jobs };
    } in
    let q = slot_of h.tables.rows c.args.job c.args.slot (λ row x. (x.standing ≡ Missed c.args.who) × (is_some row.ended ≡ true)) (subst (λ n. HasSlot n.tables.rows c.args.job c.args.slot
    (λ row x. (x.standing ≡ Missed c.args.who) × (is_some row.ended ≡ true))) (sym c.self.view_is) c.requires) in
    let both = delivered_noted h Dropped c.args.who c.args.job c.args.slot c.push.new.self.spare Lost c.lose.new.self
    c.push.new.self.entries q.0 q.1 c.self.invariant q.2 q.3 q.4.0 (sym (ap (λ b. if b then Dropped else if on_canvas is_taken (state h) (job_of q.0) q.1 then Stored else Kept) q.4.1)) refl refl c.lose.ensures c.push.ensures.entries
    c.push.ensures.spare in
    let new : History = record {
      opening = h.opening;
      journal = c.push.new.self.entries;
      spare = c.push.new.self.spare;
      tables = record h.tables { rows = c.lose.new.self };
    } in
    subst (λ n. Notes n new c.args.who (act.Deliver c.args.job c.args.slot Dropped)) c.self.view_is both.1
