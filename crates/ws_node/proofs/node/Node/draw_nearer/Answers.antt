use Rattle.ws_node.proofs.Asking.{draws-zero}
use Rattle.ws_node.proofs.node.Node.draw_nearer.Goals as goal

pub returns-then-left-eq0 : goal.returns-then-left-eq0
returns-then-left-eq0 c =
    draws-zero c.args.count c.saturating_sub-left.result c.args.abort c.args.self.now c.ask.new.self c.requires c.saturating_sub-left.ensures c.if-left-eq0.true c.ask.ensures
