use Rattle.std.proofs.Common.{◌≡◌, ◌∙◌, sym, refl}
use Rattle.cv_event.specs.declared.entry.Fate.TheVariants.{Stored, Kept}
use Rattle.cv_event.specs.Legality.{fate_of}
use Rattle.cv_tables.specs.Rows.{HasSlot, job_of}
use Rattle.cv_desk.specs.Desks.{state}
use Rattle.cv_desk.proofs.TaskLemmas.{delivered_slot, stored_slot, refusal_says}
use Rattle.cv_desk.proofs.desk.Desk.deliver.Goals as goal

pub note_kept-requires : goal.note_kept-requires
note_kept-requires c =
    delivered_slot c.args.self.now c.args.who c.args.job c.args.slot c.args.painted Kept refl c.requires
    (λ row x there is. sym (c.fate.ensures row x there is) ∙ c.in-Kept.is)

pub note_stored-requires : goal.note_stored-requires
note_stored-requires c =
    delivered_slot c.args.self.now c.args.who c.args.job c.args.slot c.args.painted Stored refl c.requires
    (λ row x there is. sym (c.fate.ensures row x there is) ∙ c.in-Stored.is)

pub returns-in-Stored-clause-wants : goal.returns-in-Stored-clause-wants
returns-in-Stored-clause-wants c =
    refusal_says c.note_stored.result
    (HasSlot c.args.self.now.tables.rows c.args.job c.args.slot (λ row x. fate_of (state c.args.self.now) (job_of row) x ≡ Stored))
    (stored_slot c.args.self.now c.args.who c.args.job c.args.slot c.args.painted c.requires
    (λ row x there is. sym (c.fate.ensures row x there is) ∙ c.in-Stored.is))
