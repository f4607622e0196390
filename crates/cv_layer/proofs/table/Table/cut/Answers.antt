use Rattle.std.proofs.Common.{◌≡◌, ◌∙◌, ◌-◌, sym, arith}
use Rattle.std.specs.Prelude.{slice_index_or as get_or}
use Rattle.cv_model.specs.declared.feature.Feature.{Feature}
use Rattle.cv_layer.proofs.TableLemmas.{cut_is}
use Rattle.cv_layer.proofs.table.Table.cut.Goals.{then-from-start, else-from-start, then-to-end, else-to-end}
use Rattle.cv_layer.proofs.table.Table.cut.Goals as goal

pub returns : goal.returns
returns c =
    let fs = c.self.inside.rows in
    let start = c.args.start in
    let from = c.args.from in
    let to = c.args.to in
    let end = c.requires.end in
    let view = c.self.view_is in
    let least : ((from ≡ start → c.if-from-start.least ≡ c.args.whole.now.least)
    × ((from ≡ start → ⊥) → (d : Feature) → c.if-from-start.least ≡ (get_or fs from d).id)) =
    elim c.if-from-start.branch [
      | then-from-start w ↦ (λ e. w.least-is, λ ne. absurd (ne w.if-from-start.true))
      | else-from-start w ↦
          (λ e. absurd (w.if-from-start.false e), λ ne d. w.least-is ∙ w.id_at-least.ensures d)
    ] in
    let greatest : ((to ≡ c.args.end → c.if-to-end.greatest ≡ c.args.whole.now.greatest)
    × ((to ≡ c.args.end → ⊥) → (d : Feature) → c.if-to-end.greatest ≡ (get_or fs (to - 1) d).id)) =
    elim c.if-to-end.branch [
      | then-to-end w ↦ (λ e. w.greatest-is, λ ne. absurd (ne w.if-to-end.true))
      | else-to-end w ↦
          (λ e. absurd (w.if-to-end.false e), λ ne d. w.greatest-is ∙ w.id_at-greatest.ensures d)
    ] in
    rw (← view)
    (cut_is fs c.args.whole.now start from to c.if-from-start.least c.if-to-end.greatest
    (rw (← view) at c.requires.whole) (let within = rw (← view) at c.requires.within in omega (arith, within, end))
    c.requires.from c.requires.some (omega (arith, c.requires.to, end)) least.0 least.1
    (λ e. greatest.0 (e ∙ sym end)) (λ ne. greatest.1 (λ e. ne (e ∙ end))))
