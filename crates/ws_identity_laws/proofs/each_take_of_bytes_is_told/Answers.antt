use Rattle.ws_identity_laws.proofs.TakenBytes.{each_take_of_bytes_is_told}
use Rattle.ws_identity_laws.proofs.each_take_of_bytes_is_told.Goals as goal

pub returns : goal.returns
returns c = each_take_of_bytes_is_told
