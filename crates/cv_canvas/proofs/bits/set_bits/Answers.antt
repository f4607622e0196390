use Rattle.std.proofs.Common.{ℕ, ◌/◌, List, get_or, set, ap, ◌∙◌}
use Rattle.std.specs.Int.Bits.{bit_or}
use Rattle.cv_canvas.proofs.BitLemmas.{range_set, long_range_set}
use Rattle.cv_canvas.proofs.bits.set_bits.Goals.{then-first-last, else-first-last}
use Rattle.cv_canvas.proofs.bits.set_bits.Goals as goal

pub returns-clause-set : goal.returns-clause-set
returns-clause-set c =
    elim c.if-first-last.branch [
      | then-first-last w ↦
          (λ k. long_range_set c.args.words.now c.set_in.new.words c.if-first-last.words c.set_in-2.new.words w.set_all.new.words c.args.from
          c.args.end c.first_ones.result c.last_ones.result k c.requires.order c.requires.within w.if-first-last.true c.set_in.ensures
          c.first_ones.ensures w.words-is w.set_all.ensures c.if-first-last.auto.words c.set_in-2.ensures c.last_ones.ensures)
      | else-first-last w ↦
          (λ k. range_set c.args.words.now c.set_in.new.words c.set_in-2.new.words c.args.from c.args.end c.first_ones.result c.last_ones.result
          k c.requires.order c.requires.within w.if-first-last.false c.set_in.ensures c.first_ones.ensures
          (c.set_in-2.ensures ∙ ap (λ (ws : List ℕ). set ws (c.args.end / 64) (bit_or (get_or ws (c.args.end / 64) 0) c.last_ones.result)) w.words-is)
          c.last_ones.ensures)
    ]
