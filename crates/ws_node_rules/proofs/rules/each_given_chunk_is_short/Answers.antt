use Rattle.ws_node.proofs.Pieces.{each_given_chunk_is_short}
use Rattle.ws_node_rules.proofs.rules.each_given_chunk_is_short.Goals as goal

pub returns : goal.returns
returns c = each_given_chunk_is_short
