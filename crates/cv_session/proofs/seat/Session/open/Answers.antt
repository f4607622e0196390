use Rattle.std.proofs.Common.{ap, ◌∙◌}
use Rattle.cv_event.specs.States.{begin}
use Rattle.cv_session.proofs.RunLemmas.{seat_opened}
use Rattle.cv_store.specs.Stores.{project_of}
use Rattle.cv_session.proofs.seat.Session.open.Goals as goal

pub invariant_of-result : goal.invariant_of-result
invariant_of-result c =
    seat_opened (record { project = project_of c.args.store; canvases = c.args.specs.now })
    (record { history = c.in-Ok.desk; held = c.new.result.items; specs = c.in_ok-sizes.sizes.items; lasts = c.in_ok-lasts.lasts.items; refused = c.new-in-Ok.result })
    (c.in-Ok.ensures.ok.2 ∙ ap begin c.in-Ok.ensures.ok.1) c.new.ensures.items c.in_ok-sizes.ensures c.in_ok-lasts.ensures
