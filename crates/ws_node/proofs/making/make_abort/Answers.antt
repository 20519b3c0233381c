use Rattle.std.proofs.Common.{length, ◌∙◌}
use Rattle.ws_node.proofs.MakingNodes.{signal-answered}
use Rattle.ws_node.proofs.making.make_abort.Goals as goal

pub unreachable-requires : goal.unreachable-requires
unreachable-requires c =
    c.in_default.not-Signal (record { 0 = length c.args.realm.now.slots.signals }) (c.in_ok-signal.ensures.reply_is ∙ signal-answered c.args.realm.now.slots)
