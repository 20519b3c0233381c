use Rattle.ws_chain_laws.proofs.Keeps.{each_job_keeps_chain}
use Rattle.ws_chain_laws.proofs.each_job_keeps_chain.Goals as goal

pub returns : goal.returns
returns c = each_job_keeps_chain
