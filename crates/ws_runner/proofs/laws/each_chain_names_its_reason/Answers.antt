use Rattle.ws_node_rules.proofs.Causes.{each_node_sends_down}
use Rattle.ws_runner.proofs.ChainReasons.{chain-names}
use Rattle.ws_runner.proofs.laws.each_chain_names_its_reason.Goals as goal

pub returns : goal.returns
returns g c = chain-names each_node_sends_down g.K.Sink.got
