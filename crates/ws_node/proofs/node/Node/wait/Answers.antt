use Rattle.ws_node.proofs.EndSteps.{waits-above, waits-below}
use Rattle.ws_node.proofs.node.Node.wait.Goals as goal

pub returns-then-port-port_below : goal.returns-then-port-port_below
returns-then-port-port_below c =
    waits-below c.args.self.now c.wait_below.new.self c.args.port c.port_below.result c.args.message c.port_below.ensures c.if-port-port_below.true c.wait_below.ensures

pub returns-then-port : goal.returns-then-port
returns-then-port c =
    waits-above c.args.self.now c.wait_above.new.self c.args.port c.port_below.result c.args.message c.port_below.ensures c.if-port-port_below.false c.if-port.true c.wait_above.ensures
