use Rattle.std.proofs.lemmas.Result.{on_ok_weaker}
use Rattle.std.proofs.Common.{◌≡◌, [], sym, ◌∙◌}
use Rattle.cv_session.proofs.TaskLemmas.{none_held}
use Rattle.cv_session.proofs.ServeLemmas.{give_none, give_one}
use Rattle.cv_session.proofs.seat.Session.play_give.Goals as goal

pub returns-then-held_count-eq0 : goal.returns-then-held_count-eq0
returns-then-held_count-eq0 c =
    let none : c.args.self.now.held ≡ [] = none_held c.args.self.now.held (sym c.held_count.ensures ∙ c.if-held_count-eq0.true) in
    on_ok_weaker c.refuse.result (give_none c.args.self.now c.refuse.new.self c.args.line none) c.refuse.ensures

pub returns-else-held_count-eq0 : goal.returns-else-held_count-eq0
returns-else-held_count-eq0 c = on_ok_weaker c.give_first.result (give_one c.args.self.now c.give_first.new.self c.args.line) c.give_first.ensures
