use Rattle.std.proofs.Common.{length, ap, arith}
use Rattle.cv_canvas.proofs.BitLemmas.{read_long, read_set}
use Rattle.cv_canvas.proofs.bits.Bits.set.Goals as goal

pub set_bits-requires-clause-within : goal.set_bits-requires-clause-within
set_bits-requires-clause-within c =
    let long = read_long c.self.inside.count c.self.inside.words.items c.args.self.now c.self.view_is in
    let same = ap length c.deref_mut.ensures.value in
    omega (arith, c.requires.within, c.self.invariant)

pub returns-clause-set : goal.returns-clause-set
returns-clause-set c =
    (λ k. read_set c.self.inside.count c.self.inside.words c.deref_mut.result.now c.set_bits.new.words c.args.self.now c.args.from
    c.args.end k c.self.view_is c.requires.within c.deref_mut.ensures.value c.deref_mut.ensures.len c.set_bits.ensures.length
    (c.set_bits.ensures.set k))
