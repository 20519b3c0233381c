use Rattle.ws_pipe_laws.proofs.pipes.each_trigger_aborts_in_order.Goals as goal
use Rattle.ws_pipe_laws.proofs.pipes.Signals as laws

pub returns : goal.returns
returns c = laws.each_trigger_aborts_in_order
