use Rattle.std.proofs.Common.{◌≡◌, ◌∙◌, ap, sym, subst, Option, ℕ}
use Rattle.std.specs.Prelude.{option_and_then}
use Rattle.cv_model.specs.Layers.{Contents, Core}
use Rattle.cv_model.specs.Texts.{joined_in}
use Rattle.cv_paint.specs.Symbols.{AreSymbols, column_of, symbol_by}
use Rattle.cv_paint.proofs.SymbolLemmas.{unjoined_symbols, absent_symbols, joined_symbols_are}
use Rattle.cv_paint.proofs.symbols.Symbols.by_join.Goals as goal

pub by_rule-requires : goal.by_rule-requires
by_rule-requires g c =
    unjoined_symbols c.args.input.now.parts c.args.field.now c.args.rule c.requires.rule c.requires.style
    c.requires.joined (sym (c.in_default.ensures ∙ ap (λ (k : Core). k.join) c.layer.ensures.layer))

pub by_rule-requires-in_default-join : goal.by_rule-requires-in_default-join
by_rule-requires-in_default-join g c =
    absent_symbols c.args.input.now.parts c.args.field.now c.in-Some.join.now c.args.rule c.requires.rule
    c.requires.style c.requires.joined (sym (c.in-Some.ensures ∙ ap (λ (k : Core). k.join) c.layer.ensures.layer))
    (sym c.in_default-join.ensures.join)

pub by_rule-requires-2 : goal.by_rule-requires-2
by_rule-requires-2 g c =
    let parts = c.args.input.now.parts in
    let field = c.args.field.now in
    let join = c.in-Some.join.now in
    let made = c.in_ok-rule.rule in
    let column : c.column_of-column.result ≡ column_of parts.own.contents join.local =
    c.column_of-column.ensures
    ∙ ap (λ (k : Contents). column_of k join.local)
    (c.contents-2.ensures.contents ∙ ap (λ (k : Core). k.contents) c.layer-2.ensures.layer) in
    subst (λ (k : Option ℕ). AreSymbols parts k made) (sym column)
    (joined_symbols_are parts field join c.in-Some-join.there.now.core c.args.rule made c.requires.rule c.requires.style
    c.requires.joined (sym (c.in-Some.ensures ∙ ap (λ (k : Core). k.join) c.layer.ensures.layer))
    (sym c.in-Some-join.ensures.join)
    (λ text. c.in_ok-rule.ensures.ok text
    ∙ ap (λ (there : Contents). symbol_by c.args.rule (option_and_then (joined_in there join.key field.name) text))
    c.contents.ensures.contents))
