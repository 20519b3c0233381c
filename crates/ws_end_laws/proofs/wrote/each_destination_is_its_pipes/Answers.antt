use Rattle.ws_end_laws.proofs.wrote.each_destination_is_its_pipes.Goals as goal
use Rattle.ws_end_laws.proofs.wrote.Destinations as laws

pub returns : goal.returns
returns c = laws.each_destination_is_its_pipes
