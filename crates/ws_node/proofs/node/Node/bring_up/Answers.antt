use Rattle.ws_node.proofs.EndSteps.{brings-up-as}
use Rattle.ws_node.proofs.node.Node.bring_up.Goals as goal

pub returns : goal.returns
returns c = brings-up-as c.args.port c.args.message c.broken_by-self.result c.args.self.now c.deliver.new.self c.broken_by-self.ensures c.deliver.ensures
