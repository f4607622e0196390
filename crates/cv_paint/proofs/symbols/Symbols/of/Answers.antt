use Rattle.std.proofs.Common.{◌≡◌, ◌∙◌, ap, sym, subst, Option, ℕ}
use Rattle.cv_model.specs.declared.style.Style.{Style}
use Rattle.cv_model.specs.Layers.{Contents, Core}
use Rattle.cv_paint.specs.Symbols.{AreSymbols, IsRuleOf, column_of, field_of}
use Rattle.cv_paint.proofs.SymbolLemmas.{no_symbols, own_symbols}
use Rattle.cv_paint.proofs.symbols.Symbols.of.Goals as goal

pub by_rule-requires : goal.by_rule-requires
by_rule-requires g c =
    let style = c.style-style.ensures ∙ ap (λ (k : Core). k.style) c.layer.ensures.layer in
    no_symbols c.args.input.now.parts c.in_ok-rule.rule
    (subst (λ (s : Style). IsRuleOf s c.in_ok-rule.rule) style c.in_ok-rule.ensures)
    (sym (c.in_default.ensures ∙ ap field_of style))

pub by_rule-requires-2 : goal.by_rule-requires-2
by_rule-requires-2 g c =
    let parts = c.args.input.now.parts in
    let field = c.in-Some.field.now in
    let style = c.style-style.ensures ∙ ap (λ (k : Core). k.style) c.layer.ensures.layer in
    let column : c.column_of-column.result ≡ column_of parts.own.contents field.name =
    c.column_of-column.ensures
    ∙ ap (λ (k : Contents). column_of k field.name)
    (c.contents.ensures.contents ∙ ap (λ (k : Core). k.contents) c.layer-2.ensures.layer) in
    subst (λ (k : Option ℕ). AreSymbols parts k c.in_ok-rule.rule) (sym column)
    (own_symbols parts field c.in_ok-rule.rule
    (subst (λ (s : Style). IsRuleOf s c.in_ok-rule.rule) style c.in_ok-rule.ensures)
    (sym (c.in-Some.ensures ∙ ap field_of style)) c.if-field.false)
