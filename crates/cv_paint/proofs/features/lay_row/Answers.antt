use Rattle.cv_model.specs.Pictures.{feature_strokes}
use Rattle.cv_model.specs.Texts.{feature_symbol}
use Rattle.cv_paint.proofs.LayingLemmas.{lays_missed}
use Rattle.cv_paint.proofs.WidthLemmas.{given_within}
use Rattle.cv_paint.proofs.features.lay_row.Goals as goal

pub returns-then-is_missed-clause-laid : goal.returns-then-is_missed-clause-laid
returns-then-is_missed-clause-laid g c =
    let parts = c.args.symbols.now in
    let row = c.args.row.now in
    lays_missed c.args.view.now (λ p. feature_strokes parts c.args.view.now p row) _
    (c.is_missed.ensures c.if-is_missed.true (feature_symbol parts row)
    (given_within parts row c.widest.result c.widest.ensures.widest))
