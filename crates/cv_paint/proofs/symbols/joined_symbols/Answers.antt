use Rattle.std.proofs.Common.{◌≡◌, ◌∙◌, ap, sym, List, ◌++◌, take, length, Option, None, ◌+◌, arith}
use Rattle.std.specs.Option.{option_or}
use Rattle.std.proofs.Math.Seq.{take-add}
use Rattle.cv_model.specs.declared.feature.Feature.{Feature}
use Rattle.cv_model.specs.declared.symbol.Symbol.{Symbol}
use Rattle.cv_paint.specs.Symbols.{joined_symbol}
use Rattle.cv_paint.proofs.LayingLemmas.{run_within}
use Rattle.cv_paint.proofs.SymbolLemmas.{joined_append}
use Rattle.cv_paint.proofs.symbols.joined_symbols.Goals as goal

pub loop-at-preserved : goal.loop-at-preserved
loop-at-preserved g c = record {
  counted = c.poll.ensures.quiet c.if-poll.false ∙ c.loop-at.invariant.counted;
  within = run_within c.rows-rows.result.now c.run_from-run.result.now c.loop-at.at c.loop-at.invariant.within
      c.run_from-run.ensures.same;
  kept = λ q.
      let rule = c.args.rule.now in
      let rows = c.rows-rows.result.now in
      let run = c.run_from-run.result.now in
      let so_far = take c.loop-at.at rows in
      let longer : take (c.loop-at.at + length run) rows ≡ so_far ++ run =
      take-add c.loop-at.at (length run) rows ∙ ap (λ (more : List Feature). so_far ++ more) c.run_from-run.ensures.same in
      c.in_ok-keep_rows.ensures q
      ∙ ap (λ (old : Option (Option Symbol)). option_or old (joined_symbol rule c.args.key c.args.column run q))
      (c.loop-at.invariant.kept q)
      ∙ joined_append rule c.args.key c.args.column so_far run q None
      ∙ ap (λ (all : List Feature). joined_symbol rule c.args.key c.args.column all q) (sym longer);
}
