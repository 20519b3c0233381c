use Rattle.ws_end_laws.proofs.wrote.each_fulfilled_pipe_passed_all.Goals as goal
use Rattle.ws_end_laws.proofs.wrote.Fulfilled as laws

pub returns : goal.returns
returns c = laws.each_fulfilled_pipe_passed_all
