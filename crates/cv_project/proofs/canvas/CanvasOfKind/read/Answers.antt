use Rattle.std.proofs.Common.{◌≡◌, true, sym, ◌∙◌}
use Rattle.cv_project.proofs.CanvasLemmas.{is_size-holds, can_show-shown}
use Rattle.cv_project.proofs.canvas.CanvasOfKind.read.Goals as goal

pub returns-clause-kept : goal.returns-clause-kept
returns-clause-kept c =
    let size : c.is_size.result ≡ true = c.in_ok-tested.ensures.held in
    let shown : c.can_show.result ≡ true = c.in_ok-tested-2.ensures.held in
    record {
      size = is_size-holds c.in_ok-width.width c.in_ok-height.height (sym c.is_size.ensures ∙ size);
      cache = c.in_ok-cache.ensures.kept.1;
      extent = can_show-shown c.in_ok-width.width c.in_ok-height.height c.in_ok-extent.extent
          (sym c.can_show.ensures ∙ shown);
    }
