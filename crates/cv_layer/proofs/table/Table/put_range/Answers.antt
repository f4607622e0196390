use Rattle.std.proofs.Common.{◌≡◌, ◌∙◌, ◌-◌, ◌++◌, ap, subst, arith, take, drop}
use Rattle.std.proofs.lemmas.List.{length-map}
use Rattle.cv_model.specs.declared.feature.Feature.{Feature}
use Rattle.cv_model.specs.Features.{ids_of}
use Rattle.cv_layer.specs.declared.stretches.Stretch.{Stretch}
use Rattle.cv_layer.specs.Stretches.{AreStretches}
use Rattle.cv_layer.proofs.StretchLemmas.{next_stretch, no_next, range_more, nothing_more}
use Rattle.cv_layer.proofs.table.Table.put_range.Goals.{then-done-until+in_ok-put, else-done-until}
use Rattle.cv_layer.proofs.table.Table.put_range.Goals as goal

abbrev none : Stretch
none = record { count = 0; least = 0; greatest = 0 }

same : (c : goal.In-loop-stretch) → c.deref-stretch-items.result.now ≡ c.self.inside.stretches.items
same c = c.deref-stretch-items.ensures.value ∙ ap (λ v. v.items) c.value.ensures

pub loop-stretch-init : goal.loop-stretch-init
loop-stretch-init c = record {
  from = omega arith;
  to = c.requires.order;
  start = λ i. 0;
  met = λ l. omega arith;
  made = λ before h. nothing_more c.args.from before (ids_of c.args.self.now.features) _ h;
}

pub end_of-end-requires : goal.end_of-end-requires
end_of-end-requires c =
    let next = next_stretch c.deref-stretch-items.result.now c.self.inside.stretches.items
    c.loop-stretch.stretch-index c.loop-stretch.start none (ids_of c.self.inside.rows) (same c) c.self.invariant.stretches
    c.loop-stretch-test.true c.loop-stretch.invariant.start in
    rw (← c.self.view_is)
    (let long = length-map c.self.inside.rows (λ (f : Feature). f.id) in omega (arith, next.within, long))

pub cut-piece-requires-clause-whole : goal.cut-piece-requires-clause-whole
cut-piece-requires-clause-whole c =
    rw (← c.self.view_is)
    (next_stretch c.deref-stretch-items.result.now c.self.inside.stretches.items c.loop-stretch.stretch-index
    c.loop-stretch.start none (ids_of c.self.inside.rows)
    (c.deref-stretch-items.ensures.value ∙ ap (λ v. v.items) c.value.ensures) c.self.invariant.stretches
    c.loop-stretch-test.true c.loop-stretch.invariant.start).is

pub cut-piece-requires-clause-within : goal.cut-piece-requires-clause-within
cut-piece-requires-clause-within c =
    let next = next_stretch c.deref-stretch-items.result.now c.self.inside.stretches.items
    c.loop-stretch.stretch-index c.loop-stretch.start none (ids_of c.self.inside.rows)
    (c.deref-stretch-items.ensures.value ∙ ap (λ v. v.items) c.value.ensures) c.self.invariant.stretches
    c.loop-stretch-test.true c.loop-stretch.invariant.start in
    rw (← c.self.view_is)
    (let long = length-map c.self.inside.rows (λ (f : Feature). f.id) in
    omega (arith, next.within, long, c.end_of-end.ensures))

pub cut-piece-requires-clause-from : goal.cut-piece-requires-clause-from
cut-piece-requires-clause-from c =
    c.loop-stretch.invariant.met (grind (arith, c.if-done-until.true, c.min-until.ensures))

pub loop-stretch-preserved : goal.loop-stretch-preserved
loop-stretch-preserved c =
    let next = next_stretch c.deref-stretch-items.result.now c.self.inside.stretches.items
    c.loop-stretch.stretch-index c.loop-stretch.start none (ids_of c.self.inside.rows)
    (c.deref-stretch-items.ensures.value ∙ ap (λ v. v.items) c.value.ensures) c.self.invariant.stretches
    c.loop-stretch-test.true c.loop-stretch.invariant.start in
    let was = c.loop-stretch.invariant in
    let ids = ids_of c.args.self.now.features in
    elim c.if-done-until.branch [
      | then-done-until+in_ok-put w ↦
          record {
            from = grind (arith, was.from, w.if-done-until.true, w.done-is);
            to = grind (arith, w.done-is, c.min-until.ensures);
            start = w.start-is ∙ c.end_of-end.ensures ∙ next.end;
            met = λ l. grind (arith, l, w.done-is, w.start-is, c.min-until.ensures);
            made = λ before h.
                let before_it = was.made before h in
                let more = w.in_ok-put.ensures (before ++ take (c.loop-stretch.done - c.args.from) (drop c.args.from ids))
                (take (c.min-until.result - c.loop-stretch.done) (drop c.loop-stretch.done ids)) before_it w.cut-piece.ensures in
                let joined = range_more c.args.from c.loop-stretch.done c.min-until.result before ids was.from
                (omega (arith, w.if-done-until.true)) in
                rw (w.made-is, w.done-is) (subst (AreStretches w.put.new.stretches.items) joined more);
          }
      | else-done-until w ↦
          record {
            from = grind (arith, was.from, w.done-is);
            to = grind (arith, was.to, w.done-is);
            start = w.start-is ∙ c.end_of-end.ensures ∙ next.end;
            met = λ l. grind (arith, l, w.done-is, w.start-is, w.if-done-until.false, c.min-until.ensures);
            made = λ before h. rw (w.made-is, w.done-is) (was.made before h);
          }
    ]

pub returns : goal.returns
returns c = λ before h.
    let was = c.loop-stretch.invariant in
    let whole = no_next c.deref-stretch-items.result.now c.self.inside.stretches.items c.loop-stretch.stretch-index
    c.loop-stretch.start (ids_of c.self.inside.rows)
    (c.deref-stretch-items.ensures.value ∙ ap (λ v. v.items) c.value.ensures) c.self.invariant.stretches
    c.loop-stretch-test.false was.start in
    let long = length-map c.self.inside.rows (λ (f : Feature). f.id) in
    let within = rw (← c.self.view_is) at c.requires.within in
    let done : c.loop-stretch.done ≡ c.args.to = grind (arith, was.met, was.to, whole, long, within) in
    subst (λ n. AreStretches c.loop-stretch.made.items
    (before ++ take (n - c.args.from) (drop c.args.from (ids_of c.args.self.now.features)))) done (was.made before h)
