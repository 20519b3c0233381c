use Rattle.std.proofs.Common.{◌≡◌, drop}
use Rattle.std.specs.List.{list_all}
use Rattle.ws_node.specs.Node.{has_settled_in}
use Rattle.ws_node.proofs.node.Core.has_ended.Given as goal

-- the rest tells what all tell
abbrev pub invariant-loop-pipe : goal.invariant-loop-pipe
invariant-loop-pipe l = list_all (has_settled_in l.fn.self.realm.slots) (drop l.pipe-index l.fn.self.pipes_before.items) ≡ list_all (has_settled_in l.fn.self.realm.slots) l.fn.self.pipes_before.items
