use Rattle.ws_end_laws.proofs.successes.each_pipe_ends_as_its_action.Goals as goal
use Rattle.ws_end_laws.proofs.successes.Ending as laws

pub returns : goal.returns
returns c = laws.each_pipe_ends_as_its_action
