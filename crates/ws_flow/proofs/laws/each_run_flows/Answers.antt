use Rattle.ws_flow.proofs.laws.each_run_flows.Goals as goal
use Rattle.ws_flow.proofs.Members.{chain_got, chain_stage, chain_done}

pub returns : goal.returns
returns c = record { got = chain_got; fault = chain_stage; finish = chain_done }
