use Rattle.std.proofs.Common.{◌≡◌, ◌∙◌, sym, subst, ap, map, Some, None, IsSomeAnd}
use Rattle.std.specs.Option.{option_copied}
use Rattle.cv_event.specs.declared.entry.Act.TheVariants as act
use Rattle.cv_event.specs.States.{change_at}
use Rattle.cv_store.specs.Stores.{project_of}
use Rattle.cv_tables.specs.Rows.{Row, row_in, whole_of}
use Rattle.cv_tables.specs.Tabs.{Tab, tab_publishes}
use Rattle.cv_desk.specs.Desks.{History, Notes}
use Rattle.cv_desk.proofs.KeepingLemmas.{finish_noted, room_for_row}
use Rattle.cv_desk.proofs.desk.Desk.note_finish.Goals as goal

pub push-requires : goal.push-requires
push-requires c =
    let h : History = record {
      opening = record {
        project = project_of c.self.inside.opened.value;
        canvases = map (λ (tab : Tab). tab.spec) c.self.inside.blank.value;
      };
      journal = c.self.inside.journal.entries;
      spare = c.self.inside.journal.spare;
      tables = record { store = c.self.inside.store; tabs = c.self.inside.canvases; rows = c.self.inside.jobs };
    } in
    let r = c.in-Some.row.now in
    let there : row_in h.tables.rows c.args.job ≡ Some r = sym c.get.ensures ∙ ap option_copied c.in-Some.is in
    let facts = subst (λ o. IsSomeAnd o (λ (row : Row). (row.composer ≡ Some c.args.who) × (row.ended ≡ None)
    × (c.args.image ≡ whole_of row))) there
    (subst (λ n. IsSomeAnd (row_in n.tables.rows c.args.job) (λ (row : Row). (row.composer ≡ Some c.args.who) × (row.ended ≡ None)
    × (c.args.image ≡ whole_of row))) (sym c.self.view_is) c.requires) in
    room_for_row h c.args.job r c.self.invariant there facts.1

pub invariant_of-self : goal.invariant_of-self
invariant_of-self c =
    let h : History = record {
      opening = record {
        project = project_of c.self.inside.opened.value;
        canvases = map (λ (tab : Tab). tab.spec) c.self.inside.blank.value;
      };
      journal = c.self.inside.journal.entries;
      spare = c.self.inside.journal.spare;
      tables = record { store = c.self.inside.store; tabs = c.self.inside.canvases; rows = c.self.inside.jobs };
    } in
    let r = c.in-Some.row.now in
    let there : row_in h.tables.rows c.args.job ≡ Some r = sym c.get.ensures ∙ ap option_copied c.in-Some.is in
    let facts = subst (λ o. IsSomeAnd o (λ (row : Row). (row.composer ≡ Some c.args.who) × (row.ended ≡ None)
    × (c.args.image ≡ whole_of row))) there
    (subst (λ n. IsSomeAnd (row_in n.tables.rows c.args.job) (λ (row : Row). (row.composer ≡ Some c.args.who) × (row.ended ≡ None)
    × (c.args.image ≡ whole_of row))) (sym c.self.view_is) c.requires) in
    let tabs = c.publish.new.self in
    let rows = c.end.new.self in
    let both = finish_noted h c.args.who c.args.job c.push.new.self.spare tabs rows c.push.new.self.entries r c.self.invariant there
    facts.0 facts.1 (c.publish.ensures ∙ ap (λ n. change_at n (tab_publishes c.args.job r) h.tables.tabs) c.canvas.ensures)
    c.end.ensures c.push.ensures.entries c.push.ensures.spare in
    both.0

pub returns : goal.returns
returns c =
    let h : History = record {
      opening = record {
        project = project_of c.self.inside.opened.value;
        canvases = map (λ (tab : Tab). tab.spec) c.self.inside.blank.value;
      };
      journal = c.self.inside.journal.entries;
      spare = c.self.inside.journal.spare;
      tables = record { store = c.self.inside.store; tabs = c.self.inside.canvases; rows = c.self.inside.jobs };
    } in
    let r = c.in-Some.row.now in
    let there : row_in h.tables.rows c.args.job ≡ Some r = sym c.get.ensures ∙ ap option_copied c.in-Some.is in
    let facts = subst (λ o. IsSomeAnd o (λ (row : Row). (row.composer ≡ Some c.args.who) × (row.ended ≡ None)
    × (c.args.image ≡ whole_of row))) there
    (subst (λ n. IsSomeAnd (row_in n.tables.rows c.args.job) (λ (row : Row). (row.composer ≡ Some c.args.who) × (row.ended ≡ None)
    × (c.args.image ≡ whole_of row))) (sym c.self.view_is) c.requires) in
    let tabs = c.publish.new.self in
    let rows = c.end.new.self in
    let both = finish_noted h c.args.who c.args.job c.push.new.self.spare tabs rows c.push.new.self.entries r c.self.invariant there
    facts.0 facts.1 (c.publish.ensures ∙ ap (λ n. change_at n (tab_publishes c.args.job r) h.tables.tabs) c.canvas.ensures)
    c.end.ensures c.push.ensures.entries c.push.ensures.spare in
    let new : History = record {
      opening = h.opening;
      journal = c.push.new.self.entries;
      spare = c.push.new.self.spare;
      tables = record h.tables { tabs = tabs; rows = rows };
    } in
    subst (λ n. Notes n new c.args.who (act.Finish c.args.job)) c.self.view_is both.1
