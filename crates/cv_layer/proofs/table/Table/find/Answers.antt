use Rattle.std.proofs.Common.{◌≡◌, ◌≤◌, ◌∙◌, ◌+◌, ◌-◌, ap, sym, subst, arith, length, take, drop, None}
use Rattle.std.proofs.lemmas.List.{length-map}
use Rattle.cv_model.specs.declared.feature.Feature.{Feature}
use Rattle.cv_model.specs.Features.{ids_of}
use Rattle.cv_layer.specs.declared.stretches.Stretch.{Stretch}
use Rattle.std.specs.Prelude.{slice_index_or as get_or, position}
use Rattle.cv_model.specs.Edits.{is_feature}
use Rattle.cv_layer.specs.Stretches.{IsStretch}
use Rattle.cv_layer.proofs.StretchLemmas.{next_stretch, no_next}
use Rattle.cv_layer.proofs.TableLemmas.{passed_found, passed_more, position_none}
use Rattle.cv_layer.proofs.table.Table.find.Goals as goal

abbrev nothing : Stretch
nothing = record { count = 0; least = 0; greatest = 0 }

pub end_of-end-requires : goal.end_of-end-requires
end_of-end-requires c =
    let next = next_stretch c.deref-stretch-items.result.now c.self.inside.stretches.items
    c.loop-stretch.stretch-index c.loop-stretch.start nothing (ids_of c.self.inside.rows)
    (c.deref-stretch-items.ensures.value ∙ ap (λ v. v.items) c.value.ensures) c.self.invariant.stretches
    c.loop-stretch-test.true c.loop-stretch.invariant.start in
    rw (← c.self.view_is)
    (let long = length-map c.self.inside.rows (λ (f : Feature). f.id) in omega (arith, next.within, long))

pub find_in-requires-clause-within : goal.find_in-requires-clause-within
find_in-requires-clause-within c =
    let next = next_stretch c.deref-stretch-items.result.now c.self.inside.stretches.items
    c.loop-stretch.stretch-index c.loop-stretch.start nothing (ids_of c.self.inside.rows)
    (c.deref-stretch-items.ensures.value ∙ ap (λ v. v.items) c.value.ensures) c.self.invariant.stretches
    c.loop-stretch-test.true c.loop-stretch.invariant.start in
    let long = length-map c.self.inside.rows (λ (f : Feature). f.id) in
    omega (arith, next.within, long, c.end_of-end.ensures)

pub find_in-requires-clause-stretch : goal.find_in-requires-clause-stretch
find_in-requires-clause-stretch c =
    let next = next_stretch c.deref-stretch-items.result.now c.self.inside.stretches.items
    c.loop-stretch.stretch-index c.loop-stretch.start nothing (ids_of c.self.inside.rows)
    (c.deref-stretch-items.ensures.value ∙ ap (λ v. v.items) c.value.ensures) c.self.invariant.stretches
    c.loop-stretch-test.true c.loop-stretch.invariant.start in
    let s = get_or c.deref-stretch-items.result.now c.loop-stretch.stretch-index nothing in
    subst (λ n. IsStretch s (take n (drop c.loop-stretch.start (ids_of c.self.inside.rows))))
    (let count : s.count ≡ c.end_of-end.result - c.loop-stretch.start = omega (arith, c.end_of-end.ensures) in count) next.is

pub returns-in-Some : goal.returns-in-Some
returns-in-Some c =
    let next = next_stretch c.deref-stretch-items.result.now c.self.inside.stretches.items
    c.loop-stretch.stretch-index c.loop-stretch.start nothing (ids_of c.self.inside.rows)
    (c.deref-stretch-items.ensures.value ∙ ap (λ v. v.items) c.value.ensures) c.self.invariant.stretches
    c.loop-stretch-test.true c.loop-stretch.invariant.start in
    let fs = c.self.inside.rows in
    let start = c.loop-stretch.start in
    let s = get_or c.deref-stretch-items.result.now c.loop-stretch.stretch-index nothing in
    let long = length-map fs (λ (f : Feature). f.id) in
    let count : c.end_of-end.result - start ≡ s.count = omega (arith, c.end_of-end.ensures) in
    let within : start + s.count ≤ length fs = omega (arith, next.within, long) in
    let before = rw (← c.self.view_is) at c.loop-stretch.invariant.none in
    rw (← c.self.view_is)
    (sym (passed_found c.args.id fs start s.count c.in-Some.at within
    (ap (λ n. position (is_feature c.args.id) (take n (drop start fs))) (sym count) ∙ sym c.in-Some.ensures) before))

pub loop-stretch-preserved : goal.loop-stretch-preserved
loop-stretch-preserved c =
    let next = next_stretch c.deref-stretch-items.result.now c.self.inside.stretches.items
    c.loop-stretch.stretch-index c.loop-stretch.start nothing (ids_of c.self.inside.rows)
    (c.deref-stretch-items.ensures.value ∙ ap (λ v. v.items) c.value.ensures) c.self.invariant.stretches
    c.loop-stretch-test.true c.loop-stretch.invariant.start in
    let fs = c.self.inside.rows in
    let start = c.loop-stretch.start in
    let s = get_or c.deref-stretch-items.result.now c.loop-stretch.stretch-index nothing in
    let long = length-map fs (λ (f : Feature). f.id) in
    let count : c.end_of-end.result - start ≡ s.count = omega (arith, c.end_of-end.ensures) in
    let within : start + s.count ≤ length fs = omega (arith, next.within, long) in
    let before = rw (← c.self.view_is) at c.loop-stretch.invariant.none in
    let part = take s.count (drop start fs) in
    let none : position (is_feature c.args.id) part ≡ None =
    ap (λ n. position (is_feature c.args.id) (take n (drop start fs))) (sym count) ∙ sym c.in-None.ensures in
    record {
      start = c.end_of-end.ensures ∙ next.end;
      none = rw (← c.self.view_is, c.end_of-end.ensures)
          (passed_more c.args.id fs start s.count within none before);
    }

pub returns : goal.returns
returns c =
    let whole = no_next c.deref-stretch-items.result.now c.self.inside.stretches.items c.loop-stretch.stretch-index
    c.loop-stretch.start (ids_of c.self.inside.rows)
    (c.deref-stretch-items.ensures.value ∙ ap (λ v. v.items) c.value.ensures) c.self.invariant.stretches
    c.loop-stretch-test.false c.loop-stretch.invariant.start in
    let long = length-map c.self.inside.rows (λ (f : Feature). f.id) in
    sym (position_none c.args.id c.args.self.now.features
    (λ k d l. c.loop-stretch.invariant.none k d
    (let same = ap (λ t. length t.features) c.self.view_is in omega (arith, l, same, whole, long))))
