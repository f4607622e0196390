use Rattle.std.proofs.Common.{◌∙◌, ap, ◌++◌, None}
use Rattle.cv_scan.specs.Marks.{runs_from}
use Rattle.cv_scan.proofs.OrderLemmas.{added-in-turn}
use Rattle.cv_scan.proofs.marks.put_sorted_runs.Goals as goal

pub returns : goal.returns
returns c =
    let put =
    c.in_ok-put_pairs.ensures
    ∙ ap (λ marks. c.args.into.now ++ runs_from c.args.area.columns.from None marks) c.deref.ensures.value in
    added-in-turn c.args.area c.args.marks.now.items c.bring_down.new.marks.items c.args.into.now c.put_pairs.new.into
    c.requires c.bring_down.ensures.moved c.bring_down.ensures.order put
