use Rattle.std.proofs.Common.{rules, ◌≤◌, ℕ, subst, sym, ap, ◌∙◌}
use Rattle.cv_model.specs.declared.colour.Rgba.{Rgba}
use Rattle.cv_geom.specs.Runs.{IsWithin}
use Rattle.cv_canvas.specs.Canvas.{with_run, item_in}
use Rattle.cv_canvas.specs.Counts.{Counted, laid_times, once_more, counted_in}
use Rattle.cv_canvas.proofs.PlaceLemmas.{laid_by}
use Rattle.cv_canvas.proofs.CountLemmas.{counted_run}
use Rattle.cv_canvas.proofs.counts.CountCanvasCanvas.lay.Goals as goal

pub returns-clause-laid : goal.returns-clause-laid
returns-clause-laid c =
    let s = c.self.inside in
    let inside = subst (λ (k : Counted). IsWithin k.width k.height c.args.run) (sym c.self.view_is) c.requires.run in
    let small : s.colour.a ≤ 255 = search rules in
    let counted = laid_by once_more 0 s.width s.height s.counts c.deref_mut.result.now c.count.new.counts c.args.run
    c.deref_mut.ensures.value c.deref_mut.ensures.len c.self.invariant.whole inside c.count.ensures in
    ap {B = ℕ → ℕ → Rgba} (λ (f : ℕ → ℕ → ℕ) (i j : ℕ). laid_times s.colour (f i j)) counted
    ∙ counted_run s.colour (item_in 0 s.width s.counts.items) c.args.run small
    ∙ ap (λ (k : Counted). with_run k.colour (counted_in k) c.args.run) c.self.view_is
    ∙ ap (λ (k : Rgba). with_run k (counted_in c.args.self.now) c.args.run) (sym c.requires.ink)
