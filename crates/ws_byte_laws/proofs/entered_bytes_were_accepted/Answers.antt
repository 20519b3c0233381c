use Rattle.ws_byte_laws.proofs.Sound.{entered_bytes_were_accepted}
use Rattle.ws_byte_laws.proofs.entered_bytes_were_accepted.Goals as goal

pub returns : goal.returns
returns c = entered_bytes_were_accepted
