use Rattle.ws_flow.proofs.laws.each_output_is_told.Goals as goal
use Rattle.ws_flow.proofs.EachKind.{outputs_told}
use Rattle.ws_flow.proofs.Whole.{input_is_one}

pub returns : goal.returns
returns c = record { input = input_is_one; output = outputs_told }
