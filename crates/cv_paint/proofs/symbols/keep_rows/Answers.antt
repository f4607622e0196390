use Rattle.std.proofs.Common.{◌≡◌, ◌∙◌, ap, sym, List, ◌++◌, ◌∷◌, [], take, Option, ◌+◌}
use Rattle.std.specs.Option.{option_or}
use Rattle.std.proofs.lemmas.List.{take_more}
use Rattle.cv_model.specs.declared.feature.Feature.{Feature}
use Rattle.cv_model.specs.declared.symbol.Symbol.{Symbol}
use Rattle.cv_paint.specs.Symbols.{given_by, joined_symbol}
use Rattle.cv_paint.proofs.SymbolLemmas.{joined_append}
use Rattle.cv_paint.proofs.symbols.keep_rows.Goals as goal

pub loop-row-preserved : goal.loop-row-preserved
loop-row-preserved c = λ q.
    let rule = c.args.rule.now in
    let so_far = take c.loop-row.row-index c.args.rows.now in
    let item = c.row-item.result in
    let longer : take (c.loop-row.row-index + 1) c.args.rows.now ≡ so_far ++ item ∷ [] =
    take_more c.args.rows.now c.loop-row.row-index item c.loop-row-test.true
    ∙ ap (λ (f : Feature). so_far ++ f ∷ []) (sym c.row-item.is) in
    c.in_ok-keep_row.ensures q
    ∙ ap (λ (old : Option (Option Symbol)). option_or old (joined_symbol rule c.args.key c.args.column (item ∷ []) q))
    (c.loop-row.invariant q)
    ∙ joined_append rule c.args.key c.args.column so_far (item ∷ []) q (given_by c.args.given.now q)
    ∙ ap (λ (rows : List Feature). option_or (given_by c.args.given.now q) (joined_symbol rule c.args.key c.args.column rows q))
    (sym longer)
