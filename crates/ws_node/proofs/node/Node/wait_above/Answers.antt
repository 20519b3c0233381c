use Rattle.ws_node.proofs.EndSteps.{waits-up, no-room-up}
use Rattle.ws_node.proofs.node.Node.wait_above.Goals as goal

pub returns-in-Err : goal.returns-in-Err
returns-in-Err c = no-room-up c.args.message c.args.self.now c.in-Some.end c.push.new.self c.in-Some.is c.in-Err.ensures.refused

pub returns-in_default-push : goal.returns-in_default-push
returns-in_default-push c = waits-up c.args.message c.args.self.now c.in-Some.end c.push.new.self c.in-Some.is c.in_default-push.ensures.waits
