use Rattle.ws_pipe_laws.proofs.pipes.each_signal_keeps_order.Goals as goal
use Rattle.ws_pipe_laws.proofs.pipes.SignalOrder as laws

pub returns : goal.returns
returns c = laws.each_signal_keeps_order
