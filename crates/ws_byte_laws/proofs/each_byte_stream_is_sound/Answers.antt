use Rattle.ws_byte_laws.proofs.Sound.{each_byte_stream_is_sound}
use Rattle.ws_byte_laws.proofs.each_byte_stream_is_sound.Goals as goal

pub returns : goal.returns
returns c = each_byte_stream_is_sound
