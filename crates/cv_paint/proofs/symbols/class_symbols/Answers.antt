use Rattle.std.proofs.Common.{◌≡◌, ◌∙◌, ap, sym, List, ◌++◌, ◌∷◌, [], take, Option, Some, None, ℕ, ◌+◌, if◌then◌else◌}
use Rattle.std.specs.Prelude.{option_map, bytes_eq}
use Rattle.std.specs.Option.{option_or}
use Rattle.std.proofs.lemmas.List.{take_more, take_all}
use Rattle.cv_model.specs.declared.style.Class.{Class}
use Rattle.cv_model.specs.declared.symbol.Symbol.{Symbol}
use Rattle.cv_model.specs.Styles.{class_of}
use Rattle.cv_paint.specs.Symbols.{given_by}
use Rattle.cv_paint.proofs.SymbolLemmas.{class_more}
use Rattle.cv_paint.proofs.symbols.class_symbols.Goals as goal

pub loop-class-preserved : goal.loop-class-preserved
loop-class-preserved c = λ q.
    let so_far = take c.loop-class.class-index c.args.classes.now in
    let item = c.class-item.result in
    let longer : take (c.loop-class.class-index + 1) c.args.classes.now ≡ so_far ++ item ∷ [] =
    take_more c.args.classes.now c.loop-class.class-index item c.loop-class-test.true
    ∙ ap (λ (k : Class). so_far ++ k ∷ []) (sym c.class-item.is) in
    c.in_ok-keep.ensures q
    ∙ ap (λ (t : List ℕ). option_or (given_by c.loop-class.given q) (if bytes_eq q t then Some (Some item.symbol) else None))
    c.as_str.ensures.text
    ∙ ap (λ (old : Option (Option Symbol)). option_or old (if bytes_eq q item.value then Some (Some item.symbol) else None))
    (c.loop-class.invariant q)
    ∙ sym (class_more so_far item q)
    ∙ ap (λ (classes : List Class). option_map Some (class_of classes q)) (sym longer)

pub returns : goal.returns
returns c = λ q.
    c.loop-class.invariant q
    ∙ ap (λ (classes : List Class). option_map Some (class_of classes q))
    (take_all c.loop-class.class-index c.args.classes.now c.loop-class-test.false)
