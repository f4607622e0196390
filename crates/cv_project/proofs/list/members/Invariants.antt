use Rattle.std.proofs.Common.{◌≡◌, [], length, drop}
use Rattle.serde_json.specs.View.{items_view}
use Rattle.cv_project.specs.Lists.{members_from}
use Rattle.cv_project.specs.Seen.{seen}
use Rattle.cv_project.proofs.list.members.Given as goal

-- behind the members that are read, the others give what all give from the front
abbrev pub invariant-loop-at : goal.invariant-loop-at
invariant-loop-at g l = record {
  kept : g.M.Member.keeps l.of l.made;
  count : length l.made ≡ l.at;
  rest : members_from (g.M.Member.made l.of) (seen l.node).path l.made (items_view (drop l.at l.items))
      ≡ members_from (g.M.Member.made l.of) (seen l.node).path [] (items_view l.items);
}
