use Rattle.std.proofs.Common.{◌≡◌, ◌∙◌, sym, ap, subst, map, [], List}
use Rattle.std.specs.Prelude.{zip}
use Rattle.std.specs.List.{AllByRecursion}
use Rattle.cv_model.specs.declared.project.LayerFile.{LayerFile}
use Rattle.cv_model.specs.Edits.{is_over}
use Rattle.cv_model.specs.Openings.{opening_of, layers_of_file}
use Rattle.cv_store.specs.Stores.{RevisedLayer, layer_of}
use Rattle.cv_store.specs.Laws.{IsBehind}
use Rattle.cv_store.specs.Opened.{opened_row, store_of, CanBeRows}
use Rattle.cv_store.proofs.Openings.{can_rows, rows_are, layers_first, all_first, opened_is_behind}
use Rattle.cv_store.proofs.store.Store.open.Goals as goal

pub opened_rows-requires : goal.opened_rows-requires
opened_rows-requires c =
    subst (λ l. CanBeRows (zip l c.args.contents.items)) (sym (c.into_vec.ensures ∙ c.into_parts-layers.ensures.layers))
    (can_rows c.args.file c.args.contents.items c.requires)

pub opened-requires-clause-within : goal.opened-requires-clause-within
opened-requires-clause-within c =
    let given = c.args.contents.items in
    let files = c.args.file.layers in
    let seen = c.in_ok-layers.ensures
    ∙ ap (λ (l : List LayerFile). map opened_row (zip l given)) (c.into_vec.ensures ∙ c.into_parts-layers.ensures.layers)
    ∙ rows_are (zip files given) in
    ap (λ l. is_over (map layer_of l)) seen ∙ ap is_over (layers_first (layers_of_file files given))
    ∙ c.requires.within

pub opened-requires-clause-first : goal.opened-requires-clause-first
opened-requires-clause-first c =
    let given = c.args.contents.items in
    let files = c.args.file.layers in
    let seen = c.in_ok-layers.ensures
    ∙ ap (λ (l : List LayerFile). map opened_row (zip l given)) (c.into_vec.ensures ∙ c.into_parts-layers.ensures.layers)
    ∙ rows_are (zip files given) in
    subst (AllByRecursion (λ (row : RevisedLayer). row.revision ≡ 1)) (sym seen) (all_first (layers_of_file files given))

pub returns-clause-value : goal.returns-clause-value
returns-clause-value c =
    let given = c.args.contents.items in
    let files = c.args.file.layers in
    let seen = c.in_ok-layers.ensures
    ∙ ap (λ (l : List LayerFile). map opened_row (zip l given)) (c.into_vec.ensures ∙ c.into_parts-layers.ensures.layers)
    ∙ rows_are (zip files given) in
    let all : c.opened.result ≡ store_of c.args.file given = c.opened.ensures ∙ (λ i. record {
      background = c.into_parts-layers.ensures.background i;
      layers = seen i;
      version = 1;
    }) in
    all

pub returns-clause-behind : goal.returns-clause-behind
returns-clause-behind c =
    let given = c.args.contents.items in
    let files = c.args.file.layers in
    let seen = c.in_ok-layers.ensures
    ∙ ap (λ (l : List LayerFile). map opened_row (zip l given)) (c.into_vec.ensures ∙ c.into_parts-layers.ensures.layers)
    ∙ rows_are (zip files given) in
    let all : c.opened.result ≡ store_of c.args.file given = c.opened.ensures ∙ (λ i. record {
      background = c.into_parts-layers.ensures.background i;
      layers = seen i;
      version = 1;
    }) in
    subst (IsBehind (opening_of c.args.file given).project []) (sym all) (opened_is_behind c.args.file given)
