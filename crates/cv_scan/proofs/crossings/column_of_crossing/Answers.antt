use Rattle.std.proofs.Common.{◌≡◌, ◌∙◌, sym, ap, ℕ, Bool, pos, ◌-ℤ◌, ◌*ℤ◌, ◌≤ℤ◌, int_lt, rules, of_calls}
use Rattle.cv_model.specs.Positions.{doubled}
use Rattle.cv_model.specs.Polygons.{is_crossed, passes_right}
use Rattle.cv_model.specs.Views.{PixelGrid, centre_of}
use Rattle.cv_geom.proofs.FallLemmas.{falls-found}
use Rattle.cv_scan.proofs.ReachLemmas.{edge-falls}
use Rattle.cv_scan.proofs.CrossingLemmas.{between-found, crossed-up}
use Rattle.cv_scan.proofs.crossings.column_of_crossing.Goals as goal

pub returns : goal.returns
returns c = λ columns within is low_is high_isnt.
    let v = c.args.view.now in
    let row = c.args.row in
    let low = c.args.low in
    let high = c.args.high in
    let between = c.args.between in
    let test : ℕ → Bool = λ i. is_crossed (centre_of v i row) (low, high) in
    let unit : pos 1 ≤ℤ v.u = rw (ap (λ (g : PixelGrid). g.u) c.view.view_is) at c.view.invariant.unit in
    between-found v row c.search.result low high columns between is low_is high_isnt
    (falls-found test between.from between.end c.search.result c.requires.order
    (λ i k from less below held. edge-falls v row between.end (doubled low) (doubled high) unit i k less below held)
    (λ t at.
    c.search.ensures.found test t
    (λ k r from below call.
    let told : r ≡ int_lt (((centre_of v k row).x -ℤ (doubled low).x) *ℤ c.height-height.result) c.limit-limit.result =
    search (rules, of_calls) in
    let up : test k ≡ passes_right (centre_of v k row) (doubled low) (doubled high) =
    crossed-up (centre_of v k row) (doubled low) (doubled high) low_is high_isnt in
    (rw (c.height-height.ensures, c.limit-limit.ensures, c.centre.ensures) at told) ∙ sym up)
    at))
