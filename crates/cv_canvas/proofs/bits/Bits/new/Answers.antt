use Rattle.cv_canvas.proofs.BitLemmas.{bits_long, bits_clear}
use Rattle.cv_canvas.proofs.bits.Bits.new.Goals as goal

pub returns-clause-length : goal.returns-clause-length
returns-clause-length c = bits_long c.args.count c.in_ok-words.words.items

pub returns-clause-clear : goal.returns-clause-clear
returns-clause-clear c =
    (λ k. bits_clear c.args.count _ c.in_ok-words.words.items k (c.in_ok-words.ensures.items_if_clones_equal (λ y same. same)))
