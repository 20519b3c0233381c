use Rattle.ws_end_laws.proofs.wrote.each_pipe_wrote_a_front.Goals as goal
use Rattle.ws_end_laws.proofs.wrote.Fronts as laws

pub returns : goal.returns
returns c = laws.each_pipe_wrote_a_front
