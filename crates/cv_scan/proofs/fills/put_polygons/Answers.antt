use Rattle.std.proofs.Common.{◌≡◌, ◌∙◌, sym, ap, ℕ, ◌+◌, ◌*◌, ◌≤◌, ◌<◌, List, ◌∷◌, drop, length, length-append, arith}
use Rattle.std.specs.List.{list_any, flat_map}
use Rattle.std.proofs.lemmas.List.{drop_more}
use Rattle.cv_model.specs.Positions.{Position}
use Rattle.cv_model.specs.Polygons.{edges, is_inside}
use Rattle.cv_model.specs.Views.{centre_of}
use Rattle.cv_geom.specs.Runs.{edges_of, rows_of}
use Rattle.cv_geom.proofs.RunLemmas.{still-step, adds-united}
use Rattle.cv_scan.proofs.fills.put_polygons.Goals as goal

-- the steps of one polygon are paid
one-polygon :
    (steps new total rows : ℕ) (polygon : List (List Position)) (rest all : List (List (List Position)))
    → all ≡ polygon ∷ rest → steps + length (edges_of all) * rows ≤ total
    → new ≤ steps + length (flat_map edges polygon) * rows → new + length (edges_of rest) * rows ≤ total
one-polygon steps new total rows polygon rest all is paid cost =
    let many : length (edges_of all) ≡ length (flat_map edges polygon) + length (edges_of rest) =
    ap (λ polygons. length (edges_of polygons)) is ∙ length-append (flat_map edges polygon) (edges_of rest) in
    let split : length (edges_of all) * rows ≡ length (flat_map edges polygon) * rows + length (edges_of rest) * rows =
    ap (λ n. n * rows) many ∙ spread (length (flat_map edges polygon)) (length (edges_of rest)) rows in
    omega arith
  where
    spread : (a b c : ℕ) → (a + b) * c ≡ a * c + b * c
    spread a b c = grind arith

pub loop-polygon-preserved : goal.loop-polygon-preserved
loop-polygon-preserved g c =
    let v = c.args.view.now in
    let xs = c.args.polygons.now in
    let at = c.loop-polygon.polygon-index in
    let item = c.polygon-item.result in
    let told = c.loop-polygon.invariant in
    let less : at < length xs = omega (arith, c.loop-polygon-test.true, c.loop-polygon.auto.polygon-index-end) in
    let is : drop at xs ≡ item ∷ drop (at + 1) xs =
    drop_more xs at item less ∙ ap (λ x. x ∷ drop (at + 1) xs) (sym c.polygon-item.is) in
    record {
      added =
          still-step
          (λ i j. list_any (is_inside (centre_of v i j)) xs)
          (λ i j. is_inside (centre_of v i j) item)
          (λ i j. list_any (is_inside (centre_of v i j)) (drop at xs))
          (λ i j. list_any (is_inside (centre_of v i j)) (drop (at + 1) xs)) c.args.area c.args.into.now
          c.loop-polygon.into c.unite_if_many.new.self (λ i j. ap (list_any (is_inside (centre_of v i j))) is) told.added
          (adds-united _ _ _ _ _ c.in_ok-put_polygon.ensures.added c.in_ok-unite_if_many.ensures);
      cost =
          one-polygon c.loop-polygon.steps c.put_polygon.new.steps _ (rows_of c.args.area) item (drop (at + 1) xs)
          (drop at xs) is told.cost c.in_ok-put_polygon.ensures.cost;
    }
