use Rattle.ws_transform_laws.proofs.each_half_is_lawful.Goals as goal
use Rattle.ws_transform_laws.proofs.Lawful as lawful

pub returns : goal.returns
returns c = lawful.each_half_is_lawful
