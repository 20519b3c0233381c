use Rattle.ws_end_laws.proofs.hosts.each_event_is_its_call.Goals as goal
use Rattle.ws_end_laws.proofs.hosts.Called as laws

pub returns : goal.returns
returns c = laws.each_event_is_its_call
