use Rattle.std.proofs.Common.{sym, ◌∙◌, rules, w64}
use Rattle.std.proofs.lemmas.Int.{to_z-of_z}
use mir.Val.{SFits}
use Rattle.cv_top.proofs.WordLemmas.{same_rectangle}
use Rattle.std.proofs.lemmas.Option.{none-some}
use Rattle.cv_top.proofs.words.extent.Goals as goal

pub returns-in_err-xmin-clause-only : goal.returns-in_err-xmin-clause-only
returns-in_err-xmin-clause-only c = λ e h. absurd (none-some _ (sym c.in_err-xmin.was ∙ c.number.ensures.only e.xmin h.west))

pub returns-in_err-ymin-clause-only : goal.returns-in_err-ymin-clause-only
returns-in_err-ymin-clause-only c = λ e h. absurd (none-some _ (sym c.in_err-ymin.was ∙ c.number-2.ensures.only e.ymin h.south))

pub returns-in_err-xmax-clause-only : goal.returns-in_err-xmax-clause-only
returns-in_err-xmax-clause-only c = λ e h. absurd (none-some _ (sym c.in_err-xmax.was ∙ c.number-3.ensures.only e.xmax h.east))

pub returns-in_err-ymax-clause-only : goal.returns-in_err-ymax-clause-only
returns-in_err-ymax-clause-only c = λ e h. absurd (none-some _ (sym c.in_err-ymax.was ∙ c.number-4.ensures.only e.ymax h.north))

pub returns-clause-only : goal.returns-clause-only
returns-clause-only c = λ e h.
    let a = sym c.in_ok-xmin.was ∙ c.number.ensures.only e.xmin h.west in
    let b = sym c.in_ok-ymin.was ∙ c.number-2.ensures.only e.ymin h.south in
    let m = sym c.in_ok-xmax.was ∙ c.number-3.ensures.only e.xmax h.east in
    let n = sym c.in_ok-ymax.was ∙ c.number-4.ensures.only e.ymax h.north in
    let fa : SFits w64 c.in_ok-xmin.xmin = search rules in
    let fb : SFits w64 c.in_ok-ymin.ymin = search rules in
    let fm : SFits w64 c.in_ok-xmax.xmax = search rules in
    let fn : SFits w64 c.in_ok-ymax.ymax = search rules in
    same_rectangle c.rectangle.result e c.in_ok-xmin.xmin c.in_ok-ymin.ymin c.in_ok-xmax.xmax c.in_ok-ymax.ymax (simp to_z-of_z at c.rectangle.ensures) a b m n
