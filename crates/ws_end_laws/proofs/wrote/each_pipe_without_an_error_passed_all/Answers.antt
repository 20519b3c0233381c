use Rattle.ws_end_laws.proofs.wrote.each_pipe_without_an_error_passed_all.Goals as goal
use Rattle.ws_end_laws.proofs.wrote.Closing as laws

pub returns : goal.returns
returns c = laws.each_pipe_without_an_error_passed_all
