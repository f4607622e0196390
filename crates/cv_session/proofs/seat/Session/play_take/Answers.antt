use Rattle.std.proofs.lemmas.Result.{on_ok_weaker}
use Rattle.std.proofs.Common.{◌≤◌, ◌<◌, length, arith}
use Rattle.cv_session.proofs.ServeLemmas.{take_full, take_nothing, take_some}
use Rattle.cv_session.proofs.seat.Session.play_take.Goals as goal

pub returns-then-held_count-ge64 : goal.returns-then-held_count-ge64
returns-then-held_count-ge64 c =
    let same = c.held_count.ensures in
    let many : 64 ≤ length c.args.self.now.held = omega (arith, same, c.if-held_count-ge64.true) in
    on_ok_weaker c.refuse.result (take_full c.args.self.now c.refuse.new.self c.args.line many) c.refuse.ensures

pub returns-in-Hit : goal.returns-in-Hit
returns-in-Hit c =
    let same = c.held_count.ensures in
    let few : length c.args.self.now.held < 64 = omega (arith, same, c.if-held_count-ge64.false) in
    take_some c.args.self.now c.take_task.new.self c.args.line c.in_ok-take_task.field-0 few c.in-Hit.is c.in_ok-take_task.ensures

pub returns-in-Nothing : goal.returns-in-Nothing
returns-in-Nothing c =
    let same = c.held_count.ensures in
    let few : length c.args.self.now.held < 64 = omega (arith, same, c.if-held_count-ge64.false) in
    on_ok_weaker c.refuse-in-Nothing.result
    (take_nothing c.args.self.now c.take_task.new.self c.refuse-in-Nothing.new.self c.args.line few (rw c.in-Nothing.is at c.in_ok-take_task.ensures)) c.refuse-in-Nothing.ensures
