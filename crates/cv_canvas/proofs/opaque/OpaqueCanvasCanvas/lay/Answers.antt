use Rattle.std.proofs.Common.{ℕ, Bool, ap, sym, ◌∙◌}
use Rattle.cv_model.specs.declared.colour.Rgba.{Rgba}
use Rattle.cv_canvas.specs.Canvas.{with_run}
use Rattle.cv_canvas.specs.Cover.{is_covered_in}
use Rattle.cv_canvas.specs.Opaque.{Inked, inked, inked_in}
use Rattle.cv_canvas.proofs.OpaqueLemmas.{inked_run}
use Rattle.cv_canvas.proofs.opaque.OpaqueCanvasCanvas.lay.Goals as goal

pub returns-clause-laid : goal.returns-clause-laid
returns-clause-laid c =
    ap {B = ℕ → ℕ → Rgba} (λ (f : ℕ → ℕ → Bool) (i j : ℕ). inked c.self.inside.colour (f i j)) c.cover.ensures.covered
    ∙ inked_run c.self.inside.colour (is_covered_in c.self.inside.cover) c.args.run c.self.invariant
    ∙ ap (λ (s : Inked). with_run s.colour (inked_in s) c.args.run) c.self.view_is
    ∙ ap (λ (k : Rgba). with_run k (inked_in c.args.self.now) c.args.run) (sym c.requires.ink)
