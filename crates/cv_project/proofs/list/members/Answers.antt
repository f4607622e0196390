use Rattle.std.proofs.Common.{◌≡◌, ◌+◌, [], ◌∷◌, ◌++◌, length, drop, refl, sym, ap, ◌∙◌, subst, arith}
use Rattle.std.proofs.Common.{length-append, Ok}
use Rattle.std.proofs.lemmas.List.{drop_more}
use Rattle.cv_project.proofs.ListLemmas.{members_from-more}
use Rattle.cv_project.specs.Seen.{seen}
use Rattle.cv_project.proofs.list.members.Goals as goal

pub loop-at-init : goal.loop-at-init
loop-at-init g c = rw c.new-made.ensures
    (record { kept = g.met.M.Member.begins c.args.of.now; count = refl; rest = refl })

pub loop-at-preserved : goal.loop-at-preserved
loop-at-preserved g c =
    let l = c.loop-at in
    let xs = c.args.items.now in
    let x = c.index-items-at.result in
    let item = c.in_ok-item.item in
    let here : drop l.at xs ≡ x ∷ drop (l.at + 1) xs = drop_more xs l.at x (omega arith)
    ∙ ap (λ y. y ∷ drop (l.at + 1) xs) (sym c.index-items-at.is) in
    let read = rw (c.as_slice.ensures, c.member.ensures) at c.in_ok-item.ensures.exact in
    rw c.in_ok-put.ensures.ok (record {
      kept = subst (λ ys. g.M.Member.keeps c.args.of.now (ys ++ item
          ∷ [])) c.as_slice.ensures c.in_ok-item.ensures.kept;
      count = length-append l.made (item ∷ []) ∙ ap (λ n. n + 1) l.invariant.count;
      rest = sym (members_from-more (g.M.Member.made c.args.of.now) (seen c.args.node.now).path l.made
          (drop l.at xs) x (drop (l.at + 1) xs) l.at item here l.invariant.count read) ∙ l.invariant.rest;
    })
