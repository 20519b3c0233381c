use Rattle.ws_byte_laws.proofs.Runs.{each_byte_stream_is_lawful}
use Rattle.ws_byte_laws.proofs.each_byte_stream_is_lawful.Goals as goal

pub returns : goal.returns
returns c = each_byte_stream_is_lawful
