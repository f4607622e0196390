use Rattle.cv_model.specs.Pictures.{is_feature_at}
use Rattle.cv_paint.proofs.MaskLemmas.{covers_missed}
use Rattle.cv_paint.proofs.masks.cover_row.Goals as goal

pub returns-then-is_outside-clause-covered : goal.returns-then-is_outside-clause-covered
returns-then-is_outside-clause-covered g c =
    covers_missed c.args.view.now (λ p. is_feature_at p c.args.row.now) _
    (λ i j column line. c.is_outside.ensures c.if-is_outside.true i j column line)
