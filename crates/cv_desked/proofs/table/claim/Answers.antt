use Rattle.std.proofs.Common.{subst, Ok}
use Rattle.cv_desk.specs.Answers.{ClaimAnswer, ClaimNotes}
use Rattle.cv_desked.proofs.OwedLemmas.{owed_piece, owed_composition}
use Rattle.cv_desked.proofs.table.claim.Goals as goal

pub returns-in-Ok-Paint-clause-owed : goal.returns-in-Ok-Paint-clause-owed
returns-in-Ok-Paint-clause-owed c =
    let old = c.args.desk.now in
    let new = c.claim.new.self in
    let entry = subst (λ f. ClaimNotes old new c.args.who (Ok f)) c.in-Ok-Paint.field-0-is c.in-Ok-Paint.ensures.entry in
    let answer = subst (λ f. ClaimAnswer old (Ok f)) c.in-Ok-Paint.field-0-is c.in-Ok-Paint.ensures.answer in
    owed_piece old new c.args.who c.in-Ok-Paint.piece entry answer.2

pub returns-in-Ok-Compose-clause-owed : goal.returns-in-Ok-Compose-clause-owed
returns-in-Ok-Compose-clause-owed c =
    let old = c.args.desk.now in
    let new = c.claim.new.self in
    let entry = subst (λ f. ClaimNotes old new c.args.who (Ok f)) c.in-Ok-Compose.field-0-is c.in-Ok-Compose.ensures.entry in
    let answer = subst (λ f. ClaimAnswer old (Ok f)) c.in-Ok-Compose.field-0-is c.in-Ok-Compose.ensures.answer in
    owed_composition old new c.args.who c.in-Ok-Compose.job c.in-Ok-Compose.input entry answer.1
