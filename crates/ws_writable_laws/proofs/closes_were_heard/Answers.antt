use Rattle.ws_writable_laws.proofs.closes_were_heard.Goals as goal
use Rattle.ws_writable_laws.proofs.HeardCloses as heard

pub returns : goal.returns
returns c = heard.closes_were_heard
