use Rattle.ws_pipe_laws.proofs.pipes.each_action_is_heard.Goals as goal
use Rattle.ws_pipe_laws.proofs.pipes.Begins as begins

pub returns : goal.returns
returns c = begins.each_action_is_heard
