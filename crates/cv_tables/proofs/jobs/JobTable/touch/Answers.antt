use Rattle.std.proofs.Common.{◌≡◌, ◌∙◌, ap, subst, ◌<◌, length}
use Rattle.cv_tables.specs.Rows.{row_edited, lives}
use Rattle.cv_tables.proofs.TabLemmas.{near}
use Rattle.cv_tables.proofs.TableLemmas.{swept, edited_idle, edited_end, live_within, live_place, lives_same, sweep_step, smaller}
use Rattle.cv_tables.proofs.jobs.JobTable.touch.Goals as goal

pub loop-k-init : goal.loop-k-init
loop-k-init c = swept (row_edited c.args.edit.now) (edited_idle c.args.edit.now) c.args.self.now

pub touch_at-requires : goal.touch_at-requires
touch_at-requires c =
    let live = c.self.inside.live.items in
    let same : live ≡ lives c.loop-k.self = c.self.invariant.live_is ∙ ap lives c.self.view_is in
    live_within c.loop-k.self c.index-at.result.now
    (live_place c.loop-k.self live c.loop-k.k c.index-at.result.now same
    (near live c.len.result c.loop-k.k (c.len.ensures ∙ c.self.inside.live.ok.0) c.loop-k-test.true) c.index-at.ensures)

pub loop-k-smaller : goal.loop-k-smaller
loop-k-smaller c =
    let live = c.self.inside.live.items in
    let f = row_edited c.args.edit.now in
    let same : live ≡ lives c.loop-k.self = c.self.invariant.live_is ∙ ap lives c.self.view_is in
    smaller (lives c.touch_at.new.self) (lives c.loop-k.self) c.loop-k.k
    (ap lives c.touch_at.ensures ∙ lives_same f (edited_end c.args.edit.now) c.loop-k.self c.index-at.result.now)
    (subst (λ l. c.loop-k.k < length l) same
    (near live c.len.result c.loop-k.k (c.len.ensures ∙ c.self.inside.live.ok.0) c.loop-k-test.true))

pub loop-k-preserved : goal.loop-k-preserved
loop-k-preserved c =
    let live = c.self.inside.live.items in
    let same : live ≡ lives c.loop-k.self = c.self.invariant.live_is ∙ ap lives c.self.view_is in
    sweep_step (row_edited c.args.edit.now) c.loop-k.self c.touch_at.new.self live c.loop-k.k c.index-at.result.now
    (edited_end c.args.edit.now) same
    (near live c.len.result c.loop-k.k (c.len.ensures ∙ c.self.inside.live.ok.0) c.loop-k-test.true) c.index-at.ensures
    c.touch_at.ensures ∙ c.loop-k.invariant
