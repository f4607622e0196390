use Rattle.std.proofs.Common.{◌≡◌, ℕ, List, length, codes, sym, subst, ◌∙◌, arith, rules}
use Rattle.std.proofs.lemmas.Option.{none-some, same_Some}
use Rattle.cv_model.specs.Positions.{Rectangle}
use Rattle.cv_top.specs.Words.{IsColour, IsViewOf}
use Rattle.cv_top.proofs.WordLemmas.{ten_items, held, is_ordered, same_order}
use Rattle.cv_top.proofs.words.quick_order.Goals as goal

pub returns-in_err-extent-clause-only : goal.returns-in_err-extent-clause-only
returns-in_err-extent-clause-only c = λ order q.
    let ws = c.args.words.now in
    let n : length ws ≡ 10 = omega arith in
    let read = ten_items ws _ _ _ _ _ _ _ _ _ _ n c.command-item.is c.csv-item.is c.out-item.is c.w-item.is c.h-item.is
    (held ws 5 _ _ c.as_str-2.ensures.text c.xmin-item.is) (held ws 6 _ _ c.as_str-3.ensures.text c.ymin-item.is) (held ws 7 _ _ c.as_str-4.ensures.text c.xmax-item.is)
    (held ws 8 _ _ c.as_str-5.ensures.text c.ymax-item.is) c.fill-item.is in
    let o = is_ordered ws _ _ _ _ _ _ _ _ _ _ order read q in
    absurd (none-some _ (sym c.in_err-extent.was ∙ c.extent.ensures.only o.plan.extent o.plan.extent_is))

pub returns-in_err-view-clause-only : goal.returns-in_err-view-clause-only
returns-in_err-view-clause-only c = λ order q.
    let ws = c.args.words.now in
    let n : length ws ≡ 10 = omega arith in
    let read = ten_items ws _ _ _ _ _ _ _ _ _ _ n c.command-item.is c.csv-item.is c.out-item.is (held ws 3 _ _ c.as_str-6.ensures.text c.w-item.is) (held ws 4 _ _ c.as_str-7.ensures.text c.h-item.is)
    (held ws 5 _ _ c.as_str-2.ensures.text c.xmin-item.is) (held ws 6 _ _ c.as_str-3.ensures.text c.ymin-item.is) (held ws 7 _ _ c.as_str-4.ensures.text c.xmax-item.is)
    (held ws 8 _ _ c.as_str-5.ensures.text c.ymax-item.is) c.fill-item.is in
    let o = is_ordered ws _ _ _ _ _ _ _ _ _ _ order read q in
    let same : o.plan.extent ≡ c.in_ok-extent.extent = sym (same_Some c.in_ok-extent.extent o.plan.extent (sym c.in_ok-extent.was ∙ c.extent.ensures.only o.plan.extent o.plan.extent_is)) in
    absurd (none-some _ (sym c.in_err-view.was ∙ c.sized.ensures.only order.view
    (subst (λ (e : Rectangle). IsViewOf c.as_str-6.result.now c.as_str-7.result.now e order.view) same o.plan.view_is)))

pub returns-in_err-fill-clause-only : goal.returns-in_err-fill-clause-only
returns-in_err-fill-clause-only c = λ order q.
    let ws = c.args.words.now in
    let n : length ws ≡ 10 = omega arith in
    let read = ten_items ws _ _ _ _ _ _ _ _ _ _ n c.command-item.is c.csv-item.is c.out-item.is c.w-item.is c.h-item.is
    c.xmin-item.is c.ymin-item.is c.xmax-item.is c.ymax-item.is (held ws 9 _ _ c.as_str-8.ensures.text c.fill-item.is) in
    let o = is_ordered ws _ _ _ _ _ _ _ _ _ _ order read q in
    absurd (none-some _ (sym c.in_err-fill.was ∙ c.colour.ensures.only order.fill
    (subst (λ (t : List ℕ). IsColour t order.fill) (sym c.as_bytes.ensures.value) o.plan.fill_is)))

pub returns-clause-found : goal.returns-clause-found
returns-clause-found c =
    let ws = c.args.words.now in
    let n : length ws ≡ 10 = omega arith in
    let quick : c.as_str.result.now ≡ codes "quick" = search rules in record {
      w = c.as_str-6.result.now;
      h = c.as_str-7.result.now;
      xmin = c.as_str-2.result.now;
      ymin = c.as_str-3.result.now;
      xmax = c.as_str-4.result.now;
      ymax = c.as_str-5.result.now;
      colour = c.as_str-8.result.now;
      spelled = ten_items ws _ _ _ _ _ _ _ _ _ _ n (held ws 0 _ _ (sym quick ∙ c.as_str.ensures.text) c.command-item.is) (held ws 1 _ _ c.as_str-csv.ensures.text c.csv-item.is)
          (held ws 2 _ _ c.as_str-out.ensures.text c.out-item.is) (held ws 3 _ _ c.as_str-6.ensures.text c.w-item.is) (held ws 4 _ _ c.as_str-7.ensures.text c.h-item.is)
          (held ws 5 _ _ c.as_str-2.ensures.text c.xmin-item.is) (held ws 6 _ _ c.as_str-3.ensures.text c.ymin-item.is) (held ws 7 _ _ c.as_str-4.ensures.text c.xmax-item.is)
          (held ws 8 _ _ c.as_str-5.ensures.text c.ymax-item.is) (held ws 9 _ _ c.as_str-8.ensures.text c.fill-item.is);
      plan = record {
        extent = c.in_ok-extent.extent;
        extent_is = c.in_ok-extent.ensures.found;
        view_is = c.in_ok-view.ensures.found;
        fill_is = subst (λ (t : List ℕ). IsColour t c.in_ok-fill.fill) c.as_bytes.ensures.value c.in_ok-fill.ensures.found;
      };
    }

pub returns-clause-only : goal.returns-clause-only
returns-clause-only c = λ order q.
    let ws = c.args.words.now in
    let n : length ws ≡ 10 = omega arith in
    let read = ten_items ws _ _ _ _ _ _ _ _ _ _ n c.command-item.is (held ws 1 _ _ c.as_str-csv.ensures.text c.csv-item.is) (held ws 2 _ _ c.as_str-out.ensures.text c.out-item.is)
    (held ws 3 _ _ c.as_str-6.ensures.text c.w-item.is) (held ws 4 _ _ c.as_str-7.ensures.text c.h-item.is)
    (held ws 5 _ _ c.as_str-2.ensures.text c.xmin-item.is) (held ws 6 _ _ c.as_str-3.ensures.text c.ymin-item.is) (held ws 7 _ _ c.as_str-4.ensures.text c.xmax-item.is)
    (held ws 8 _ _ c.as_str-5.ensures.text c.ymax-item.is) (held ws 9 _ _ c.as_str-8.ensures.text c.fill-item.is) in
    let o = is_ordered ws _ _ _ _ _ _ _ _ _ _ order read q in
    let same : o.plan.extent ≡ c.in_ok-extent.extent = sym (same_Some c.in_ok-extent.extent o.plan.extent (sym c.in_ok-extent.was ∙ c.extent.ensures.only o.plan.extent o.plan.extent_is)) in
    let view : c.in_ok-view.view ≡ order.view = same_Some c.in_ok-view.view order.view (sym c.in_ok-view.was ∙ c.sized.ensures.only order.view
    (subst (λ (e : Rectangle). IsViewOf c.as_str-6.result.now c.as_str-7.result.now e order.view) same o.plan.view_is)) in
    let fill : c.in_ok-fill.fill ≡ order.fill = same_Some c.in_ok-fill.fill order.fill (sym c.in_ok-fill.was ∙ c.colour.ensures.only order.fill
    (subst (λ (t : List ℕ). IsColour t order.fill) (sym c.as_bytes.ensures.value) o.plan.fill_is)) in
    same_order _ _ _ _ order o.csv o.out view fill
