use Rattle.std.proofs.Common.{◌≡◌, ◌∙◌, ap, sym, subst, ◌<◌, ◌≤◌, suc, arith, length, refl, slice_index_or}
use Rattle.cv_tables.specs.Rows.{IsLiveOn, lives}
use Rattle.cv_tables.proofs.TabLemmas.{near}
use Rattle.cv_tables.proofs.TableLemmas.{live_listed, live_at, live_within, live_place, live_on, off_canvas, rest_listed, past_count}
use Rattle.cv_tables.proofs.jobs.JobTable.find_live.Goals as goal
use Rattle.cv_tables.proofs.jobs.JobTable.find_live.Goals.{else-at-count-via-then-at-count+else-canvas, else-at-count-via-else-at-count}

pub loop-k-init : goal.loop-k-init
loop-k-init c = λ at h is. live_listed c.args.self.now at (live_at c.args.canvas c.args.self.now at is)

pub index-requires : goal.index-requires
index-requires c =
    let rows = c.self.inside.rows.items in
    let live = c.self.inside.live.items in
    let k_in = near live c.len.result c.loop-k.k (c.len.ensures ∙ c.self.inside.live.ok.0) c.loop-k-test.true in
    subst (λ n. c.index-at.result.now < n) (sym c.self.inside.rows.ok.0)
    (live_within rows c.index-at.result.now (live_place rows live c.loop-k.k c.index-at.result.now c.self.invariant.live_is k_in
    c.index-at.ensures))

pub returns-then-canvas : goal.returns-then-canvas
returns-then-canvas c =
    let rows = c.self.inside.rows.items in
    let live = c.self.inside.live.items in
    let k_in = near live c.len.result c.loop-k.k (c.len.ensures ∙ c.self.inside.live.ok.0) c.loop-k-test.true in
    let here = live_place rows live c.loop-k.k c.index-at.result.now c.self.invariant.live_is k_in c.index-at.ensures in
    let low : suc c.index-at.result.now ≤ c.args.count = omega (arith, c.if-at-count.true) in (
      low,
      subst (λ l. IsLiveOn c.args.canvas l c.index-at.result.now) c.self.view_is
          (live_on c.args.canvas rows c.index-at.result.now c.index.result.now here c.index.ensures
          (sym c.canvas.ensures ∙ c.if-canvas.true)),
    )

pub loop-k-preserved : goal.loop-k-preserved
loop-k-preserved c =
    let p = c.index-at.result.now in
    let live = c.self.inside.live.items in
    let same : live ≡ lives c.args.self.now = c.self.invariant.live_is ∙ ap lives c.self.view_is in
    let k_in = near live c.len.result c.loop-k.k (c.len.ensures ∙ c.self.inside.live.ok.0) c.loop-k-test.true in
    let within : c.loop-k.k < length (lives c.args.self.now) = subst (λ l. c.loop-k.k < length l) same k_in in
    let read : p ≡ slice_index_or (lives c.args.self.now) c.loop-k.k p =
    subst (λ l. p ≡ slice_index_or l c.loop-k.k p) same c.index-at.ensures in
    let here = live_place c.args.self.now (lives c.args.self.now) c.loop-k.k p refl within read in
    elim c.else-at-count.branch [
      | else-at-count-via-then-at-count+else-canvas w ↦
          (λ at h is. rest_listed (lives c.args.self.now) c.loop-k.k p at within read (c.loop-k.invariant at h is)
          (λ eq. off_canvas c.args.canvas c.args.self.now p w.index.result.now (live_within c.args.self.now p here)
          (subst (λ l. w.index.result.now ≡ slice_index_or l p w.index.result.now) c.self.view_is w.index.ensures)
          (λ on. w.if-canvas.false (w.canvas.ensures ∙ on))
          (subst (IsLiveOn c.args.canvas c.args.self.now) eq is)))
      | else-at-count-via-else-at-count w ↦
          (λ at h is. rest_listed (lives c.args.self.now) c.loop-k.k p at within read (c.loop-k.invariant at h is)
          (λ eq. past_count c.args.count at p h eq w.if-at-count.false))
    ]
