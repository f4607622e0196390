-- What is printed is the journal's text.
use Rattle.std.proofs.Common.{◌≡◌, ◌∙◌, Bool, if◌then◌else◌, List, [], ℕ, ap, sym, subst}
use Rattle.std.specs.List.{list_all}
use Rattle.cv_event.specs.declared.entry.Entry.{Entry}
use Rattle.cv_event.specs.Lines.{journal_text}
use Rattle.cv_outside.specs.Seen.{sink_seen}
use Rattle.cv_open.specs.declared.ends.End.{End}
use Rattle.cv_session.specs.Laws.{is_no_fail}
use Rattle.cv_top.specs.Outcomes.{Made, Told, journal_made}
use Rattle.cv_top.specs.Runs.{IsWritten, lacking}
use Rattle.cv_top.proofs.SessionLemmas.{text_told}
use Rattle.cv_top.proofs.session.print_journal.Goals as goal

pub returns-in-Ok-clause-written : goal.returns-in-Ok-clause-written
returns-in-Ok-clause-written g c = λ tray.
    let r = c.args.report.now in
    let out = sink_seen g.O.Sink c.args.out.now in
    let out' = sink_seen g.O.Sink c.write_text.new.out in
    let text = journal_text r.journal.entries r.refused r.images in
    let text_is : c.as_slice-in-Ok.result.now ≡ text = c.as_slice-in-Ok.ensures.value ∙ c.in-Ok.ensures in
    let memory_is : c.has_memory-memory.result ≡ list_all (λ (entry : Entry). is_no_fail entry.act) r.journal.entries =
    c.has_memory-memory.ensures ∙ ap (list_all (λ (entry : Entry). is_no_fail entry.act)) c.as_slice.ensures in
    let w = subst (λ (text : List ℕ). IsWritten c.write_text.result (Made [] text) tray tray out out') text_is (c.write_text.ensures.written tray) in
    subst (λ (end : End). IsWritten end (journal_made r) tray tray out out') (sym c.end_of_text.ensures)
    (subst (λ (memory : Bool). IsWritten (if c.has_memory-memory.result then c.write_text.result else lacking c.write_text.result) (Told memory [] text) tray tray out out') memory_is
    (text_told c.has_memory-memory.result c.write_text.result text tray out out' w))
