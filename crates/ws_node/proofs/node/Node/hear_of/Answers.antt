use Rattle.ws_node.proofs.node.Node.hear_of.Goals as goal

pub answer-requires : goal.answer-requires
answer-requires g c = c.requires c.in-Host.id c.in-Host.call c.in-Host.is
