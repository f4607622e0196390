use Rattle.std.proofs.Common.{refl, pos}
use Rattle.cv_compose.proofs.tests.without_layer.Goals as goal

-- one slot, and one place in which nothing is
pub of-input-requires : goal.of-input-requires
of-input-requires c =
    rw (c.of.ensures, c.in_ok-put.ensures.ok, c.in_ok-put-2.ensures.ok, c.new-slots.ensures, c.new-layers.ensures)
    (record {
      view = record { lx2 = pos 0; ty2 = pos 0; u = pos 1; w = c.args.width; h = 1 };
      width = refl;
      height = refl;
      slots = (tt, tt);
    })
