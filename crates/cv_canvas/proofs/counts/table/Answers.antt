use Rattle.std.proofs.Common.{◌≡◌, ℕ, ◌+◌, ◌<◌, List, [], ◌∷◌, length, get_or, ap, sym, subst, ◌∙◌, arith}
use Rattle.std.proofs.lemmas.List.{length-append}
use Rattle.cv_model.specs.declared.colour.Rgba.{Rgba}
use Rattle.cv_model.specs.Colours.{over, transparent}
use Rattle.cv_canvas.specs.Counts.{laid_times}
use Rattle.cv_canvas.proofs.CountLemmas.{table_more, times_more, times_none}
use Rattle.cv_canvas.proofs.counts.table.Goals as goal

pub loop-count-init : goal.loop-count-init
loop-count-init c =
    let none : length c.new-colours.result.items ≡ 0 = ap length c.new-colours.ensures.items in (
      none,
      sym (ap (laid_times c.args.colour) none ∙ times_none c.args.colour),
      λ n below. absurd (omega (arith, none, below)),
    )

pub loop-count-preserved : goal.loop-count-preserved
loop-count-preserved c =
    let xs = c.loop-count.colours.items in
    let last = c.loop-count.last in
    let e = c.in_ok-push.ensures.items in
    let long : length c.push.new.self.items ≡ length xs + 1 =
    ap length e ∙ length-append xs (last ∷ []) in (
      omega (arith, long, c.loop-count.invariant.0),
      c.over-last.ensures ∙ ap (over c.args.colour) c.loop-count.invariant.1
          ∙ sym (ap (laid_times c.args.colour) long ∙ times_more c.args.colour (length xs)),
      subst (λ (ys : List Rgba). (n : ℕ) → n < length ys → get_or ys n transparent ≡ laid_times c.args.colour n) (sym e)
          (table_more c.args.colour xs last c.loop-count.invariant.2 c.loop-count.invariant.1),
    )
