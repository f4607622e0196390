use Rattle.std.proofs.Common.{◌≡◌, Bool, false, true, List, map, Some, bytes_eq, string_bytes, sym, ap, ◌∙◌}
use Rattle.std.specs.List.{list_any}
use Rattle.serde_json.specs.View.{view, members_view}
use Rattle.cv_project.specs.Fields.{first_other}
use Rattle.cv_project.proofs.FieldLemmas.{list_any_map, first_other-among, first_other-here}
use Rattle.cv_project.proofs.node.first_other.Goals as goal

pub returns-then-not-is_among : goal.returns-then-not-is_among
returns-then-not-is_among c =
    let key = string_bytes c.in-Some.key.now in
    let names = map (λ n. n.now) c.args.names.now in
    let other : list_any (λ name. bytes_eq name key) names ≡ false =
    list_any_map (λ name. bytes_eq name key) (λ n. n.now) c.args.names.now
    ∙ sym (rw c.as_str.ensures.value at c.is_among.ensures) ∙ c.if-not-is_among.true in
    ap Some c.as_str-then-not-is_among.ensures.value
    ∙ sym (first_other-here names key (view c.in-Some.field-0-1.now) (members_view c.next.new.self) other)
    ∙ ap (λ es. first_other names (members_view es)) (sym c.in-Some.ensures.steps)
    ∙ c.loop-key.invariant.rest

pub loop-key-preserved : goal.loop-key-preserved
loop-key-preserved c =
    let key = string_bytes c.in-Some.key.now in
    let names = map (λ n. n.now) c.args.names.now in
    let among : list_any (λ name. bytes_eq name key) names ≡ true =
    list_any_map (λ name. bytes_eq name key) (λ n. n.now) c.args.names.now
    ∙ sym (rw c.as_str.ensures.value at c.is_among.ensures) ∙ c.if-not-is_among.false in
    record {
      can = tt;
      ends = tt;
      rest = sym (first_other-among names key (view c.in-Some.field-0-1.now)
          (members_view c.next.new.self) among)
          ∙ ap (λ es. first_other names (members_view es)) (sym c.in-Some.ensures.steps)
          ∙ c.loop-key.invariant.rest;
    }
