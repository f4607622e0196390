use Rattle.std.proofs.Common.{◌-◌, ◌∙◌, drop, subst, sym, take}
use Rattle.std.proofs.lemmas.Bool.{false≢true}
use Rattle.cv_layer.specs.Stretches.{IsStretch}
use Rattle.cv_layer.proofs.TableLemmas.{none_beyond, part_ids}
use Rattle.cv_layer.proofs.table.find_in.Goals as goal

pub returns-else-spans : goal.returns-else-spans
returns-else-spans c =
    let fs = c.args.rows.now in
    let start = c.args.start in
    let count = c.args.end - start in
    sym (none_beyond c.args.stretch.now c.args.id (take count (drop start fs))
    (subst (IsStretch c.args.stretch.now) (sym (part_ids fs start count)) c.requires.stretch)
    (λ inside. false≢true (sym c.if-spans.false ∙ c.spans.ensures.1 inside)))
