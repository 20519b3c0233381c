use Rattle.ws_joined_laws.proofs.Sends.{each-meets-it}
use Rattle.ws_joined_laws.proofs.each_node_is_sent_short_chunks.Goals as goal

pub returns : goal.returns
returns c = each-meets-it
