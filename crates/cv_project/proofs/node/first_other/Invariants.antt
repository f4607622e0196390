use Rattle.std.proofs.Common.{◌≡◌, map}
use Rattle.serde_json.specs.View.{members_view}
use Rattle.cv_project.specs.Fields.{first_other}
use Rattle.cv_project.proofs.node.first_other.Given as goal

-- no key so far is another one
abbrev pub invariant-loop-key : goal.invariant-loop-key
invariant-loop-key l = record {
  can : (goal.iterator-loop-key).can_next l.key-iterator;
  ends : (goal.iterator-loop-key).is_finite l.key-iterator;
  rest : first_other (map (λ n. n.now) l.names) (members_view l.key-iterator)
      ≡ first_other (map (λ n. n.now) l.names) (members_view l.members.entries);
}
