-- What the code's nodes and objects show.
use Rattle.cv_project.specs.declared.node.Node.{Node}
use Rattle.cv_project.specs.Nodes.{TreeNode}
use Rattle.cv_project.specs.Paths.{path_text}
use Rattle.cv_project.specs.declared.tree.Object.{Object}
use Rattle.serde_json.specs.Data.{Members}
use Rattle.serde_json.specs.View.{view, members_view}

-- the node of the tree that a node of the code stands for
abbrev pub seen : Node → TreeNode
seen node = record { path = path_text node.path; value = view node.value.now }

-- the members of an object that is being made
abbrev pub made : Object → Members
made object = members_view object.members.entries
