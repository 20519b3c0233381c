use Rattle.std.proofs.Common.{sym}
use Rattle.ws_node.proofs.Ending.{outcome-there}
use Rattle.ws_node.proofs.node.Node.outcome.Goals as goal

pub unreachable-requires : goal.unreachable-requires
unreachable-requires c = outcome-there c.args.self.now c.requires (sym c.in-None.ensures)
