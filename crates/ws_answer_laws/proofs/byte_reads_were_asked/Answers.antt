use Rattle.ws_answer_laws.proofs.Asked.{byte_reads_were_asked}
use Rattle.ws_answer_laws.proofs.byte_reads_were_asked.Goals as goal

pub returns : goal.returns
returns c = byte_reads_were_asked
