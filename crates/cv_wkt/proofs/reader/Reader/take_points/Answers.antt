-- One point more, and the last.
use Rattle.std.proofs.Common.{◌≡◌, ◌<◌, subst, ap, ◌∙◌, to_z, of_z, w64, arith}
use Rattle.std.proofs.lemmas.Int.{ints}
use Rattle.cv_wkt.specs.Reader.{State, with_x, with_y}
use Rattle.cv_wkt.specs.Short.{IsPair, IsLast, IsAtPoint, with_pair}
use Rattle.cv_wkt.proofs.PointLemmas.{points_more, points_last}
use Rattle.cv_wkt.proofs.reader.Reader.take_points.Goals as goal

pub loop-self-preserved : goal.loop-self-preserved
loop-self-preserved c =
    let p = c.in-Some.pair in
    let pair = subst (λ bs. IsPair bs p.x p.y p.len) c.split_at.ensures.back (c.in-Some.ensures.pair c.if-pair.false) in
    let few = subst (λ v. v < 1000000) (ap (λ (s : State). s.vertices) c.self-in-loop-self.view_is)
    c.loop-self-test.true in
    let more = points_more c.args.text.now c.args.start c.loop-self.at p.len c.args.self.now c.loop-self.self
    p.x p.y c.loop-self.invariant.stands few pair c.loop-self.invariant.along in
    let x_in = pair.x_is.range in
    let y_in = pair.y_is.range in
    let x_is : to_z w64 (of_z w64 p.x) ≡ p.x =
    let low = x_in.0 in let high = x_in.1 in omega (arith, ints) in
    let y_is : to_z w64 (of_z w64 p.y) ≡ p.y =
    let low = y_in.0 in let high = y_in.1 in omega (arith, ints) in
    let made : c.put_pair.new.self ≡ with_pair p.x p.y c.loop-self.self =
    c.in_ok-put_pair-in-Some.ensures
    ∙ ap (λ x. with_pair x (to_z w64 (of_z w64 p.y)) c.loop-self.self) x_is
    ∙ ap (λ y. with_pair p.x y c.loop-self.self) y_is in
    let stands : IsAtPoint (with_pair p.x p.y c.loop-self.self) = record {
      now = c.loop-self.invariant.stands.now;
      path = c.loop-self.invariant.stands.path;
    } in
    rw made (record { stands = stands; along = more })

pub returns-then-pair : goal.returns-then-pair
returns-then-pair c =
    let p = c.in-Some.pair in
    let s = c.loop-self.self in
    let last = subst (λ bs. IsLast bs p.x p.y p.len) c.split_at.ensures.back
    (c.in-Some.ensures.last c.if-pair.true) in
    let few = subst (λ v. v < 1000000) (ap (λ (s : State). s.vertices) c.self-in-loop-self.view_is)
    c.loop-self-test.true in
    let x_in = last.x_is.range in
    let y_in = last.y_is.range in
    let x_is : to_z w64 (of_z w64 p.x) ≡ p.x =
    let low = x_in.0 in let high = x_in.1 in omega (arith, ints) in
    let y_is : to_z w64 (of_z w64 p.y) ≡ p.y =
    let low = y_in.0 in let high = y_in.1 in omega (arith, ints) in
    let made : c.put_last.new.self ≡ with_y p.y (with_x p.x s) =
    c.in_ok-put_last-in-Some.ensures
    ∙ ap (λ x. with_y (to_z w64 (of_z w64 p.y)) (with_x x s)) x_is ∙ ap (λ y. with_y y (with_x p.x s)) y_is in
    rw made
    (points_last c.args.text.now c.args.start c.loop-self.at p.len c.args.self.now s p.x p.y
    c.loop-self.invariant.stands few last c.loop-self.invariant.along)
