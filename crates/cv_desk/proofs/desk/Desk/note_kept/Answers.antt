use Rattle.std.proofs.Common.{◌≡◌, sym, subst, refl, map}
use Rattle.cv_event.specs.declared.entry.Act.TheVariants as act
use Rattle.cv_event.specs.declared.entry.Fate.TheVariants.{Kept}
use Rattle.cv_event.specs.declared.slot.Standing.TheVariants.{Missed, Ready}
use Rattle.cv_event.specs.Legality.{fate_of}
use Rattle.cv_store.specs.Stores.{project_of}
use Rattle.cv_tables.specs.Rows.{HasSlot, IsPaintingOf, job_of}
use Rattle.cv_tables.specs.Tabs.{Tab}
use Rattle.cv_desk.specs.Desks.{History, state, Notes}
use Rattle.cv_desk.proofs.KeepingLemmas.{slot_of, room_for_slot, delivered_noted}
use Rattle.cv_desk.proofs.desk.Desk.note_kept.Goals as goal

pub push-requires : goal.push-requires
push-requires c =
    let h : History = record {
      opening = record {
        project = project_of c.self.inside.opened.value;
        canvases = map (λ (tab : Tab). tab.spec) c.self.inside.blank.value;
      };
      journal = c.self.inside.journal.entries;
      spare = c.self.inside.journal.spare;
      tables = record { store = c.self.inside.store; tabs = c.self.inside.canvases; rows = c.self.inside.jobs };
    } in
    let q = slot_of h.tables.rows c.args.job c.args.slot (λ row x. (x.standing ≡ Missed c.args.who) × IsPaintingOf c.args.painted row x × (fate_of (state h) (job_of row) x ≡ Kept)) (subst (λ n. HasSlot n.tables.rows c.args.job c.args.slot
    (λ row x. (x.standing ≡ Missed c.args.who) × IsPaintingOf c.args.painted row x × (fate_of (state n) (job_of row) x ≡ Kept))) (sym c.self.view_is) c.requires) in
    room_for_slot h.tables h.spare c.args.who c.args.job c.args.slot q.0 q.1 q.2 q.3 q.4.0 c.self.invariant.holds

pub invariant_of-self : goal.invariant_of-self
invariant_of-self c =
    let h : History = record {
      opening = record {
        project = project_of c.self.inside.opened.value;
        canvases = map (λ (tab : Tab). tab.spec) c.self.inside.blank.value;
      };
      journal = c.self.inside.journal.entries;
      spare = c.self.inside.journal.spare;
      tables = record { store = c.self.inside.store; tabs = c.self.inside.canvases; rows = c.self.inside.jobs };
    } in
    let q = slot_of h.tables.rows c.args.job c.args.slot (λ row x. (x.standing ≡ Missed c.args.who) × IsPaintingOf c.args.painted row x × (fate_of (state h) (job_of row) x ≡ Kept)) (subst (λ n. HasSlot n.tables.rows c.args.job c.args.slot
    (λ row x. (x.standing ≡ Missed c.args.who) × IsPaintingOf c.args.painted row x × (fate_of (state n) (job_of row) x ≡ Kept))) (sym c.self.view_is) c.requires) in
    let both = delivered_noted h Kept c.args.who c.args.job c.args.slot c.push.new.self.spare Ready c.ready.new.self
    c.push.new.self.entries q.0 q.1 c.self.invariant q.2 q.3 q.4.0 (sym q.4.2) refl refl c.ready.ensures c.push.ensures.entries
    c.push.ensures.spare in
    both.0

pub returns : goal.returns
returns c =
    let h : History = record {
      opening = record {
        project = project_of c.self.inside.opened.value;
        canvases = map (λ (tab : Tab). tab.spec) c.self.inside.blank.value;
      };
      journal = c.self.inside.journal.entries;
      spare = c.self.inside.journal.spare;
      tables = record { store = c.self.inside.store; tabs = c.self.inside.canvases; rows = c.self.inside.jobs };
    } in
    let q = slot_of h.tables.rows c.args.job c.args.slot (λ row x. (x.standing ≡ Missed c.args.who) × IsPaintingOf c.args.painted row x × (fate_of (state h) (job_of row) x ≡ Kept)) (subst (λ n. HasSlot n.tables.rows c.args.job c.args.slot
    (λ row x. (x.standing ≡ Missed c.args.who) × IsPaintingOf c.args.painted row x × (fate_of (state n) (job_of row) x ≡ Kept))) (sym c.self.view_is) c.requires) in
    let both = delivered_noted h Kept c.args.who c.args.job c.args.slot c.push.new.self.spare Ready c.ready.new.self
    c.push.new.self.entries q.0 q.1 c.self.invariant q.2 q.3 q.4.0 (sym q.4.2) refl refl c.ready.ensures c.push.ensures.entries
    c.push.ensures.spare in
    let new : History = record {
      opening = h.opening;
      journal = c.push.new.self.entries;
      spare = c.push.new.self.spare;
      tables = record h.tables { rows = c.ready.new.self };
    } in
    subst (λ n. Notes n new c.args.who (act.Deliver c.args.job c.args.slot Kept)) c.self.view_is both.1
