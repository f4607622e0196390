use Rattle.std.proofs.Common.{◌≡◌, refl, Bool, true, false, bytes_eq, if◌then◌else◌, Option, Some, None, arith, Bor}
use Rattle.std.specs.Prelude.{option_map}
use Rattle.std.specs.Option.{option_copied, option_or}
use Rattle.std.proofs.lemmas.Map.Text.{text_keys}
use Rattle.cv_model.specs.declared.symbol.Symbol.{Symbol}
use Rattle.cv_paint.proofs.symbols.keep.Goals as goal

-- what is seen of a map's answers
seen : (old new : Option (Option (Bor Symbol))) (test : Bool) (symbol : Option (Bor Symbol))
    → new ≡ option_or old (if test then Some symbol else None)
    → option_map option_copied new
    ≡ option_or (option_map option_copied old) (if test then Some (option_copied symbol) else None)
seen None new true symbol is = simp is refl
seen None new false symbol is = simp is refl
seen (Some x) new true symbol is = simp is refl
seen (Some x) new false symbol is = simp is refl

pub returns : goal.returns
returns c = λ q. seen _ _ (bytes_eq q c.args.text.now) c.args.symbol (grind (arith, text_keys))
