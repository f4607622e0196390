use Rattle.cv_chunks.proofs.GroupLemmas.{row_taken}
use Rattle.cv_chunks.proofs.part.rows_of.Goals as goal

pub loop-items-preserved : goal.loop-items-preserved
loop-items-preserved g c =
    row_taken g.P.OfRow.content _ c.loop-items.items.items c.split_off.new.self.items c.in_ok-row.row.items
    c.args.items.items
    c.loop-items.rows.items c.push.new.self.items c.in_ok-of_row.field-0
    c.in_ok-row.ensures.items c.in_ok-row.ensures.tail c.in_ok-of_row.ensures c.in_ok-push.ensures.items
    c.loop-items.invariant
