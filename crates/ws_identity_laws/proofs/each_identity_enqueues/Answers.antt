use Rattle.ws_identity_laws.proofs.Enqueues.{each_identity_enqueues}
use Rattle.ws_identity_laws.proofs.each_identity_enqueues.Goals as goal

pub returns : goal.returns
returns c = each_identity_enqueues
