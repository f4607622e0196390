use Rattle.std.proofs.Common.{refl}
use Rattle.cv_model.specs.declared.edit.EditError.TheVariants as error
use Rattle.cv_event.specs.declared.refused.Reason.TheVariants as reason
use Rattle.cv_session.proofs.ObeyLemmas.{on_ok, edit_enters, edit_refused}
use Rattle.cv_session.proofs.seat.Session.play_edit.Goals as goal

pub returns-in-Ok : goal.returns-in-Ok
returns-in-Ok c = edit_enters c.args.self.now c.edit.new.self c.args.line c.args.edit c.in-Ok.ensures.entry

pub returns-in-Err-UnknownLayer : goal.returns-in-Err-UnknownLayer
returns-in-Err-UnknownLayer c =
    let h = rw c.in-Err-UnknownLayer.field-0-is at c.in-Err-UnknownLayer.ensures.entry in
    on_ok c.refuse.result
    (edit_refused c.args.self.now c.edit.new.self c.refuse.new.self c.args.line c.args.edit error.UnknownLayer reason.UnknownLayer h refl)
    c.refuse.ensures

pub returns-in-Err-UnknownFeature : goal.returns-in-Err-UnknownFeature
returns-in-Err-UnknownFeature c =
    let h = rw c.in-Err-UnknownFeature.field-0-is at c.in-Err-UnknownFeature.ensures.entry in
    on_ok c.refuse-in-Err-UnknownFeature.result
    (edit_refused c.args.self.now c.edit.new.self c.refuse-in-Err-UnknownFeature.new.self c.args.line c.args.edit error.UnknownFeature reason.UnknownFeature h refl)
    c.refuse-in-Err-UnknownFeature.ensures

pub returns-in-Err-WrongKind : goal.returns-in-Err-WrongKind
returns-in-Err-WrongKind c =
    let h = rw c.in-Err-WrongKind.field-0-is at c.in-Err-WrongKind.ensures.entry in
    on_ok c.refuse-in-Err-WrongKind.result
    (edit_refused c.args.self.now c.edit.new.self c.refuse-in-Err-WrongKind.new.self c.args.line c.args.edit error.WrongKind reason.WrongKind h refl)
    c.refuse-in-Err-WrongKind.ensures

pub returns-in-Err-DuplicateId : goal.returns-in-Err-DuplicateId
returns-in-Err-DuplicateId c =
    let h = rw c.in-Err-DuplicateId.field-0-is at c.in-Err-DuplicateId.ensures.entry in
    on_ok c.refuse-in-Err-DuplicateId.result
    (edit_refused c.args.self.now c.edit.new.self c.refuse-in-Err-DuplicateId.new.self c.args.line c.args.edit error.DuplicateId reason.DuplicateId h refl)
    c.refuse-in-Err-DuplicateId.ensures

pub returns-in-Err-Limit : goal.returns-in-Err-Limit
returns-in-Err-Limit c =
    let h = rw c.in-Err-Limit.field-0-is at c.in-Err-Limit.ensures.entry in
    on_ok c.refuse-in-Err-Limit.result
    (edit_refused c.args.self.now c.edit.new.self c.refuse-in-Err-Limit.new.self c.args.line c.args.edit error.Limit reason.Limit h refl)
    c.refuse-in-Err-Limit.ensures

pub returns-in-Err-BadPlace : goal.returns-in-Err-BadPlace
returns-in-Err-BadPlace c =
    let h = rw c.in-Err-BadPlace.field-0-is at c.in-Err-BadPlace.ensures.entry in
    on_ok c.refuse-in-Err-BadPlace.result
    (edit_refused c.args.self.now c.edit.new.self c.refuse-in-Err-BadPlace.new.self c.args.line c.args.edit error.BadPlace reason.BadPlace h refl)
    c.refuse-in-Err-BadPlace.ensures
