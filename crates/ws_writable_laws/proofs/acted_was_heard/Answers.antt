use Rattle.ws_writable_laws.proofs.acted_was_heard.Goals as goal
use Rattle.ws_writable_laws.proofs.Heard as heard

pub returns : goal.returns
returns c = heard.acted_was_heard
