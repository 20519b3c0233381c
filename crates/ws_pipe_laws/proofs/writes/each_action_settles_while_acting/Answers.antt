use Rattle.ws_pipe_laws.proofs.writes.each_action_settles_while_acting.Goals as goal
use Rattle.ws_pipe_laws.proofs.writes.WhileActing as while_acting

pub returns : goal.returns
returns c = while_acting.each_action_settles_while_acting
