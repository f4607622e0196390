use Rattle.std.proofs.Common.{◌∙◌, ap, sym, bytes_eq}
use Rattle.std.specs.Prelude.{position, option_and_then}
use Rattle.cv_model.specs.Layers.{Contents}
use Rattle.cv_model.specs.Texts.{joined_in}
use Rattle.cv_layer.specs.Layers.{contents_seen}
use Rattle.cv_paint.specs.Symbols.{given_by, symbol_by}
use Rattle.cv_paint.proofs.SymbolLemmas.{table_joins}
use Rattle.cv_paint.proofs.symbols.joined_rule.Goals as goal

pub returns-in_ok-given-in-Text-clause-ok : goal.returns-in_ok-given-in-Text-clause-ok
returns-in_ok-given-in-Text-clause-ok g c = λ text.
    let key = c.args.key.now in
    let name = c.args.name.now in
    let table = c.in-Text.table in
    let columns = c.columns-columns.ensures in
    table_joins c.args.rule.now table.columns table.features key name (given_by c.in_ok-given-in-Text.given) _
    c.column-key.result c.column-column.result
    (c.column-key.ensures ∙ ap (position (bytes_eq key)) columns)
    (c.column-column.ensures ∙ ap (position (bytes_eq name)) columns)
    c.symbol_by-other.ensures c.in_ok-given-in-Text.ensures.ok text
    ∙ ap (λ (there : Contents). symbol_by c.args.rule.now (option_and_then (joined_in there key name) text))
    (ap contents_seen (sym c.in-Text.is))
