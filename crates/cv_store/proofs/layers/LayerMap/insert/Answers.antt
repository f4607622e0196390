use Rattle.std.proofs.Common.{◌≡◌, ◌∙◌, ap, sym, subst, false, is_some, true≢false}
use Rattle.std.specs.Prelude.{insert}
use Rattle.std.specs.List.{list_any}
use Rattle.cv_layer.specs.Layers.{RevisedCore}
use Rattle.cv_store.specs.Stores.{id_of}
use Rattle.cv_store.specs.Tallies.{tally_of, IsExchanged}
use Rattle.cv_store.specs.Maps.{rows_of, IsLayerMap}
use Rattle.cv_store.proofs.Lists.{has, Lacks, lacks_any}
use Rattle.cv_store.proofs.MapLemmas.{absent_key, lookup_absent, placed, map_insert, rows_insert, none}
use Rattle.cv_store.proofs.layers.LayerMap.insert.Goals as goal

pub shift_insert-requires-clause-below_len : goal.shift_insert-requires-clause-below_len
shift_insert-requires-clause-below_len c = λ there.
    let es = c.self.inside.rows.entries in
    let q = c.id.result in
    let fresh = subst (λ l. list_any (has id_of (id_of c.args.row)) l ≡ false) (sym c.self.view_is)
    c.requires.fresh in
    let lacks = lacks_any id_of (id_of c.args.row) (rows_of es) fresh in
    let absent = absent_key q es c.self.invariant.keyed (subst (λ k. Lacks id_of k (rows_of es)) (sym c.id.ensures)
    lacks) in
    absurd (true≢false (sym there ∙ ap is_some (lookup_absent q es absent)))

pub invariant_of-self : goal.invariant_of-self
invariant_of-self c =
    let es = c.self.inside.rows.entries in
    let q = c.id.result in
    let fresh = subst (λ l. list_any (has id_of (id_of c.args.row)) l ≡ false) (sym c.self.view_is)
    c.requires.fresh in
    let lacks = lacks_any id_of (id_of c.args.row) (rows_of es) fresh in
    let absent = absent_key q es c.self.invariant.keyed (subst (λ k. Lacks id_of k (rows_of es)) (sym c.id.ensures)
    lacks) in
    let is : c.tally_of.result ≡ tally_of c.args.row.layer.core.contents = c.tally_of.ensures
    ∙ ap tally_of (c.contents.ensures.contents ∙ ap (λ (l : RevisedCore). l.core.contents) (c.value.ensures
    ∙ c.layer.ensures)) in
    subst (λ l. IsLayerMap l c.in_ok-sums.sums) (sym (c.in-Ok.ensures.entries ∙ placed q c.args.row es c.args.at
    absent))
    (map_insert es c.self.inside.sums c.in_ok-sums.sums c.args.at (q, c.args.row) c.self.invariant c.id.ensures lacks
    (subst (λ t. IsExchanged c.self.inside.sums none t c.in_ok-sums.sums) is c.in_ok-sums.ensures))

pub returns-in-Ok-clause-ok : goal.returns-in-Ok-clause-ok
returns-in-Ok-clause-ok c =
    let es = c.self.inside.rows.entries in
    let q = c.id.result in
    let fresh = subst (λ l. list_any (has id_of (id_of c.args.row)) l ≡ false) (sym c.self.view_is)
    c.requires.fresh in
    let lacks = lacks_any id_of (id_of c.args.row) (rows_of es) fresh in
    let absent = absent_key q es c.self.invariant.keyed (subst (λ k. Lacks id_of k (rows_of es)) (sym c.id.ensures)
    lacks) in
    ap rows_of (c.in-Ok.ensures.entries ∙ placed q c.args.row es c.args.at absent)
    ∙ rows_insert es c.args.at (q, c.args.row) ∙ ap (λ l. insert l c.args.at c.args.row) c.self.view_is
