use Rattle.ws_node.proofs.Ahead.{each_joined_head_reads_little_ahead}
use Rattle.ws_node_rules.proofs.rules.each_joined_head_reads_little_ahead.Goals as goal

pub returns : goal.returns
returns c = each_joined_head_reads_little_ahead
