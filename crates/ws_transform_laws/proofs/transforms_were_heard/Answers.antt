use Rattle.ws_transform_laws.proofs.transforms_were_heard.Goals as goal
use Rattle.ws_transform_laws.proofs.Heard as heard

pub returns : goal.returns
returns c = heard.transforms_were_heard
