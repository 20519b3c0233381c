use Rattle.ws_byte_laws.proofs.Runs.{each_closed_byte_stream_keeps}
use Rattle.ws_byte_laws.proofs.each_closed_byte_stream_keeps.Goals as goal

pub returns : goal.returns
returns c = each_closed_byte_stream_keeps
