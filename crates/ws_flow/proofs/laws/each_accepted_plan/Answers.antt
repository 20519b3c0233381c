use Rattle.ws_flow.proofs.laws.each_accepted_plan.Goals as goal
use Rattle.ws_flow.proofs.Lengths.{accepted, chunks_short}
use Rattle.ws_flow.proofs.Lying.{lying_short}

pub returns : goal.returns
returns c = record { accepted = accepted; short = chunks_short; lying = lying_short }
