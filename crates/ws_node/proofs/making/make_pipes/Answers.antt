use Rattle.std.proofs.Common.{[], subst, append-nil, arith}
use Rattle.ws_node.specs.Opening.{AreAnswered}
use Rattle.ws_node.proofs.MakingNodes.{none-answered}
use Rattle.ws_node.proofs.making.make_pipes.Goals as goal

pub returns-clause-answered : goal.returns-clause-answered
returns-clause-answered c =
    let l = c.loop-number in
    subst (AreAnswered 0 c.args.stages c.args.realm.now.slots) (append-nil l.pipes.items)
    (l.invariant.answered [] (none-answered l.number c.args.stages l.realm.slots (omega arith)))
