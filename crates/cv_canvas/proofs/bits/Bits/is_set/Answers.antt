use Rattle.std.proofs.Common.{◌<◌, ◌≡◌, ◌/◌, ◌%◌, ◌==◌, Bool, false, List, get_or, ap, sym, ◌∙◌, arith}
use Rattle.std.specs.Int.{bit_at}
use Rattle.std.proofs.lemmas.List.{get_or_read}
use Rattle.std.proofs.lemmas.Nat.Bits.{shr_and_one}
use Rattle.cv_canvas.proofs.BitLemmas.{read_long, bits_within}
use Rattle.cv_canvas.proofs.bits.Bits.is_set.Goals as goal

pub index-requires : goal.index-requires
index-requires c =
    let long = read_long c.self.inside.count c.self.inside.words.items c.args.self.now c.self.view_is in
    omega (arith, c.requires, c.self.invariant)

pub returns : goal.returns
returns c =
    let long = read_long c.self.inside.count c.self.inside.words.items c.args.self.now c.self.view_is in
    let below : c.args.place < c.self.inside.count = omega (arith, c.requires) in
    let word : c.index.result.now ≡ get_or c.self.inside.words.items (c.args.place / 64) 0 =
    get_or_read c.self.inside.words.items _ _ (omega (arith, c.self.invariant)) c.index.ensures 0 in
    ap (λ b. b == 1) (shr_and_one c.index.result.now (c.args.place % 64) ∙ ap (λ w. bit_at w (c.args.place % 64)) word)
    ∙ sym (bits_within c.self.inside.count c.self.inside.words.items c.args.place below)
    ∙ ap (λ (bs : List Bool). get_or bs c.args.place false) c.self.view_is
