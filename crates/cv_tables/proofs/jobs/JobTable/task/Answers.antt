use Rattle.std.proofs.Common.{◌≡◌, ◌∙◌, ap, sym, subst, ◌<◌, ◌+◌, suc, arith, map, drop, Some}
use Rattle.cv_event.specs.Legality.{task_from}
use Rattle.cv_tables.specs.Rows.{lives, job_of, task_over}
use Rattle.cv_tables.proofs.TabLemmas.{near, far}
use Rattle.cv_tables.proofs.TableLemmas.{live_within, live_place, task_found, task_further, task_none}
use Rattle.cv_tables.proofs.jobs.JobTable.task.Goals as goal

pub index-requires : goal.index-requires
index-requires c =
    let rows = c.self.inside.rows.items in
    let live = c.self.inside.live.items in
    let k_in = near live c.len.result c.loop-k.k (c.len.ensures ∙ c.self.inside.live.ok.0) c.loop-k-test.true in
    subst (λ n. c.index-at.result.now < n) (sym c.self.inside.rows.ok.0)
    (live_within rows c.index-at.result.now (live_place rows live c.loop-k.k c.index-at.result.now c.self.invariant.live_is k_in
    c.index-at.ensures))

pub overflow_add-at : goal.overflow_add-at
overflow_add-at c =
    let rows = c.self.inside.rows.items in
    let live = c.self.inside.live.items in
    let k_in = near live c.len.result c.loop-k.k (c.len.ensures ∙ c.self.inside.live.ok.0) c.loop-k-test.true in
    let low = live_within rows c.index-at.result.now (live_place rows live c.loop-k.k c.index-at.result.now c.self.invariant.live_is k_in
    c.index-at.ensures) in
    let few = c.self.invariant.few in
    record { fits = omega (arith, low, few) }

pub returns-in-Some : goal.returns-in-Some
returns-in-Some c =
    let rows = c.self.inside.rows.items in
    let live = c.self.inside.live.items in
    let k_in = near live c.len.result c.loop-k.k (c.len.ensures ∙ c.self.inside.live.ok.0) c.loop-k-test.true in
    subst (λ l. Some c.in-Some.task ≡ task_from 1 (map job_of l)) c.self.view_is
    (task_found rows live c.loop-k.k c.index-at.result.now c.index.result.now c.in-Some.task c.self.invariant.live_is k_in
    c.index-at.ensures c.index.ensures (sym c.open_task.ensures ∙ c.in-Some.is)
    (subst (λ l. task_over suc l (drop c.loop-k.k (lives l)) ≡ task_over suc l (lives l)) (sym c.self.view_is) c.loop-k.invariant))

pub loop-k-preserved : goal.loop-k-preserved
loop-k-preserved c =
    let rows = c.self.inside.rows.items in
    let live = c.self.inside.live.items in
    let k_in = near live c.len.result c.loop-k.k (c.len.ensures ∙ c.self.inside.live.ok.0) c.loop-k-test.true in
    subst (λ l. task_over suc l (drop (c.loop-k.k + 1) (lives l)) ≡ task_over suc l (lives l)) c.self.view_is
    (task_further rows live c.loop-k.k c.index-at.result.now c.index.result.now c.self.invariant.live_is k_in
    c.index-at.ensures c.index.ensures (sym c.open_task.ensures ∙ c.in-None.is)
    (subst (λ l. task_over suc l (drop c.loop-k.k (lives l)) ≡ task_over suc l (lives l)) (sym c.self.view_is) c.loop-k.invariant))

pub returns : goal.returns
returns c =
    let live = c.self.inside.live.items in
    task_none c.args.self.now c.loop-k.k
    (far live (lives c.args.self.now) c.len.result c.loop-k.k (c.self.invariant.live_is ∙ ap lives c.self.view_is)
    (c.len.ensures ∙ c.self.inside.live.ok.0) c.loop-k-test.false) c.loop-k.invariant
