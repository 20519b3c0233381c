use Rattle.ws_runner.proofs.ChainAhead.{chain-reads}
use Rattle.ws_runner.proofs.laws.each_chain_reads_little_ahead.Goals as goal

pub returns : goal.returns
returns g c = chain-reads g.K.Sink.got
